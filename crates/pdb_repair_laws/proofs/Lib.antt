pub mod WalkLemmas
pub mod OriginLemmas
pub mod FrameLemmas
pub mod ReturnedLemmas
