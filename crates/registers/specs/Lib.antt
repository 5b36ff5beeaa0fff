pub mod Layer
pub mod Arcs
pub mod Laws
pub mod Copies
pub mod Tables
pub mod Views
