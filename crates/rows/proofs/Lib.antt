pub mod Binomials
pub mod Members
pub mod Numbering
pub mod Moving
pub mod Held
pub mod Filling
