pub mod NameLemmas
pub mod CachedNameLemmas
pub mod FrameLemmas
