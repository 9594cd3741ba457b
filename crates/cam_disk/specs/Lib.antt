pub mod Disk
pub mod Images
pub mod Host
pub mod Stop
pub mod Stopping
