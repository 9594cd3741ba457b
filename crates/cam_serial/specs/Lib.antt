pub mod Serial
pub mod Law
pub mod Gathered
pub mod Answering
