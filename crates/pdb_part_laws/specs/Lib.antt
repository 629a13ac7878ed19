pub mod Asked
pub mod Chains
