pub mod Storms
pub mod Disks
