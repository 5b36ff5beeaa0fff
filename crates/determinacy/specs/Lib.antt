pub mod Statements
pub mod Layers
pub mod Example
