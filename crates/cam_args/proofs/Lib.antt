pub mod Spelling
pub mod Refusing
pub mod Walking
pub mod Values
pub mod ShortCommands
pub mod StormWords
pub mod Commands
pub mod Passing
