pub mod Numbers
pub mod Binary
pub mod Limits
pub mod Outcomes
pub mod Calls
pub mod Answers
pub mod Runs
pub mod Promises
