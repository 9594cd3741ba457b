pub mod Laws
pub mod Halted
pub mod Program
pub mod Row
