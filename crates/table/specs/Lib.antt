pub mod Sites
pub mod Tables
