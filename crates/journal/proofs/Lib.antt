pub mod HeaderBlocks
pub mod HeaderLaws
pub mod Puts
pub mod Writes
