pub mod CodeLemmas
mod Examples
pub mod LineLemmas
pub mod ListLemmas
pub mod OrderLemmas
pub mod PackedLemmas
pub mod PlaceLemmas
pub mod RecordLemmas
