pub mod Trace
pub mod Taking
pub mod Rule
pub mod Seats
pub mod Gathered
