pub mod Reads
pub mod Viewed
