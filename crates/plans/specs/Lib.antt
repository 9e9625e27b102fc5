pub mod Views
pub mod Plans
pub mod Calls
pub mod Recovery
