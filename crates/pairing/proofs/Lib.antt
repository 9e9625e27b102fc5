pub mod Apart
pub mod Examples
pub mod Following
pub mod Keeping
pub mod Lawfulness
pub mod Slots
pub mod Stock
pub mod Sums
