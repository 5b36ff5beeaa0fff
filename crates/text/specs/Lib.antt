pub mod Line
pub mod Output
