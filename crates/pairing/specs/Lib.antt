pub mod Example
pub mod Moves
pub mod Ranges
pub mod Reservoir
pub mod Rules
pub mod Steps
