pub mod Server
pub mod Calls
pub mod Events
pub mod Steps
pub mod Recovered
pub mod Ahead
