pub mod FromFn
pub mod Reading
pub mod Rows
pub mod Replies
pub mod Taking
pub mod Alike
