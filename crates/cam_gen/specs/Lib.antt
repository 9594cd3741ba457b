pub mod Draws
pub mod Script
pub mod Digest
pub mod Storms
pub mod Worked
pub mod Writes
pub mod Accepted
pub mod StormDraws
