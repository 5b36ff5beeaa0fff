pub mod Finite
pub mod Reachability
pub mod Laws
