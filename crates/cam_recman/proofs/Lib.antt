mod Rows
pub mod Versioning
mod Operations
pub mod Again
mod Steps
mod Decoding
mod InRange
pub mod Folding
pub mod Saying
pub mod Counts
pub mod TakenRecords
pub mod Exactly
pub mod Firsts
pub mod Upgrading
pub mod KeptAll
pub mod KeptRanges
pub mod Said
