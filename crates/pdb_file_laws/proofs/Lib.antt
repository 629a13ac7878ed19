pub mod LongerFileLemmas
pub mod ModuleLemmas
pub mod MoreBytesLemmas
pub mod SameFrontLemmas
pub mod SameStreamLemmas
