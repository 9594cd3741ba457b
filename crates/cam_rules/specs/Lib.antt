pub mod Untested
pub mod Letters
pub mod Addressed
