pub mod Light
pub mod Words
pub mod Deeds
pub mod Captions
pub mod Surroundings
pub mod Stubs
pub mod Drawing
