pub mod Climb
pub mod Ladder
pub mod Due
pub mod Sweeping
pub mod Asking
pub mod Running
pub mod Taking
