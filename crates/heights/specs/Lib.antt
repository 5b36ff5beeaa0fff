pub mod Climb
pub mod Heights
pub mod Sweeps
pub mod Ladder
pub mod Theorems
pub mod Replies
