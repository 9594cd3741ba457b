pub mod Spaced
pub mod Gathering
pub mod Viewing
pub mod States
pub mod Settling
pub mod Counting
