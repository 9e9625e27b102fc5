pub mod Edits
pub mod Numbers
pub mod Zeros
