pub mod Repairs
pub mod RowFaults
pub mod Repaired
pub mod Claims
pub mod Intervals
pub mod Overlaps
