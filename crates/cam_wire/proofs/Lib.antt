mod Rows
pub mod Steady
pub mod Prefixes
pub mod Again
pub mod Letters
pub mod TakenReplies
pub mod Taken
pub mod TakenLists
pub mod Exactly
pub mod Unique
pub mod Sorted
pub mod Among
pub mod OneSet
pub mod Encoding
pub mod Steps
pub mod Decoding
mod Changes
