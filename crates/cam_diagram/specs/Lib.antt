pub mod Picture
pub mod Places
pub mod Marks
pub mod Stubs
pub mod Labels
pub mod Lanes
pub mod Dots
pub mod Diagram
