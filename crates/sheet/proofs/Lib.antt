pub mod Steps
pub mod Gathered
pub mod Laws
