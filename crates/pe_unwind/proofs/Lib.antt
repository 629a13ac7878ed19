pub mod EpilogueLemmas
mod Examples
pub mod LeafLemmas
pub mod LineLemmas
pub mod ListLemmas
pub mod PlaceLemmas
pub mod PopLemmas
pub mod RecordLemmas
pub mod StepLemmas
