pub mod Spaced
pub mod Behind
pub mod Upgraded
pub mod Again
