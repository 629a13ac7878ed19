pub mod TextLemmas
pub mod OpeningLemmas
pub mod LooseValues
pub mod HandleValues
pub mod FrameLemmas
mod PartLemmas
