pub mod Tables
pub mod Counted
pub mod Settled
pub mod Ledger
