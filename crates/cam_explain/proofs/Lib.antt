pub mod Adding
pub mod Causes
pub mod Explaining
pub mod Joined
pub mod Same
pub mod Stopping
