pub mod Disk
pub mod ImageDisk
pub mod MirrorDisk
pub mod FailingDisk
