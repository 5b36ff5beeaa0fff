pub mod Searches
pub mod Following
pub mod Complete
pub mod Choices
pub mod Circles
pub mod Lows
pub mod Winning
pub mod Worked
