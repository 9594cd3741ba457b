pub mod Runs
pub mod Smallest
