pub mod Layout
pub mod Chains
pub mod Refusals
pub mod Reading
pub mod Read
