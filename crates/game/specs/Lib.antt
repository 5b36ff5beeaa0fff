pub mod Game
pub mod Players
pub mod Plans
pub mod Layers
pub mod Dictionary
pub mod Loops
pub mod Lowest
