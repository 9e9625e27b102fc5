pub mod Fields
pub mod Fronts
pub mod Meanings
pub mod Runs
pub mod Splits
pub mod Values
