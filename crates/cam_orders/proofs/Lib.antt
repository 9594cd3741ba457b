pub mod Members
pub mod Counting
pub mod Longer
pub mod Levels
pub mod Filling
