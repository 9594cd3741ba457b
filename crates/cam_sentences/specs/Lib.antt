pub mod Labels
pub mod Sentences
