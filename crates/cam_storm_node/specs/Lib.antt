pub mod Receipts
pub mod Works
pub mod Asking
pub mod Copying
pub mod Playing
pub mod Taking
pub mod Following
pub mod Stepping
