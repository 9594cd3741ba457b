pub mod Families
pub mod Calls
pub mod Events
pub mod Steps
pub mod Stepping
