pub mod Draws
pub mod Laws
pub mod Sources
