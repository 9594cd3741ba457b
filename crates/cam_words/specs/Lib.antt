pub mod Lines
pub mod FirstLine
pub mod Words
pub mod Causes
pub mod Numbers
pub mod Expressions
