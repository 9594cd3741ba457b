pub mod Places
pub mod Next
pub mod Changes
pub mod Unput
