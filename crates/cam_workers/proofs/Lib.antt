pub mod Placed
pub mod Passing
pub mod Turned
pub mod HandedOver
pub mod Last
