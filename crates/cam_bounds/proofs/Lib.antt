pub mod Weights
pub mod Dues
pub mod Inputs
pub mod Requests
pub mod Plays
pub mod Lines
mod Short
mod Letters
mod Moments
