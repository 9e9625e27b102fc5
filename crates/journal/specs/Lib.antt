pub mod Header
pub mod HeaderLaws
pub mod WriteLaws
pub mod Writes
