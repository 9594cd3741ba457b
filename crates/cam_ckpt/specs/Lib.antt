pub mod Image
pub mod Reading
pub mod Steps
pub mod Moments
pub mod Laws
pub mod Opening
pub mod Again
pub mod Written
