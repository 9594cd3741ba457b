mod Flags
mod Sights
pub mod Drawn
