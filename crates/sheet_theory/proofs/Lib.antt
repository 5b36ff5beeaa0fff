pub mod Unique
pub mod Total
