pub mod Edits
pub mod Numbers
pub mod Under
pub mod Zeros
