pub mod Search
pub mod Counting
pub mod Update
pub mod Pigeonhole
pub mod Walks
pub mod Reachability
pub mod Digits
pub mod Laws
