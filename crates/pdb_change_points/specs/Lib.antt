pub mod Points
pub mod ModulePoints
pub mod UniqueNumbers
pub mod ChangePoints
