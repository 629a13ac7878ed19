pub mod Errors
pub mod Outcomes
pub mod PartSet
