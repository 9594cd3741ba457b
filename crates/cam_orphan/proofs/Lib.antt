pub mod FirstStale
pub mod Family
pub mod Home
