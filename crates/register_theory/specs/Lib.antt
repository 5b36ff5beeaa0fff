pub mod Doubling
pub mod Kept
pub mod Groups
pub mod First
