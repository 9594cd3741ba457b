pub mod Rings
pub mod Remarks
