pub mod Thinned
pub mod Noted
pub mod Turning
pub mod Tallied
pub mod Letters
pub mod Places
pub mod Leaving
pub mod EndTurns
