pub mod Choose
pub mod Rows
pub mod Registers
pub mod Theorems
pub mod Views
