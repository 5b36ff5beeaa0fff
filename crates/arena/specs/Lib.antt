pub mod Arcs
pub mod Entries
pub mod Names
pub mod Totals
