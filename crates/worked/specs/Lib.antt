pub mod Climbs
pub mod Measures
