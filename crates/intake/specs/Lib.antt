pub mod Lines
pub mod Field
pub mod Cancelled
pub mod Intake
