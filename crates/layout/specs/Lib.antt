pub mod Edits
pub mod Laws
pub mod Layout
pub mod Reading
