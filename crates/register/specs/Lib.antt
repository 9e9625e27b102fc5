pub mod Kept
pub mod Planned
pub mod Reports
pub mod Rested
pub mod Same
pub mod Stores
pub mod Takes
