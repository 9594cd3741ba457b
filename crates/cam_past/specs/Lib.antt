pub mod Tables
pub mod Relation
