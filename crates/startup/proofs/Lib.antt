pub mod Beginning
pub mod MakeWrites
pub mod OpenReads
pub mod Starts
