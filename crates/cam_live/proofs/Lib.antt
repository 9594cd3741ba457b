pub mod Noting
pub mod Counting
pub mod Settling
