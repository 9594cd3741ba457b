pub mod Memory
pub mod Moving
pub mod Reading
