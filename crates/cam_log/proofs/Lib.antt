mod Rows
pub mod Exactly
pub mod Grown
pub mod Stages
pub mod Loop
pub mod CutOff
