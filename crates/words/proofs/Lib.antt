pub mod Chunks
pub mod Evenness
pub mod Examples
pub mod FirstWord
pub mod Limits
pub mod Looks
pub mod Results
pub mod Sequences
