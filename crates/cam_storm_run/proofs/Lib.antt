pub mod InRun
pub mod Rested
pub mod Kept
pub mod Founded
pub mod Told
pub mod AtEnd
