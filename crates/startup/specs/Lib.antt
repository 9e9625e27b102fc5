pub mod Makes
pub mod Opens
pub mod Starts
