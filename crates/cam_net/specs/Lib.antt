pub mod Letters
pub mod Waiting
pub mod Outbox
