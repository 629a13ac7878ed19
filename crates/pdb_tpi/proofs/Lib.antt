pub mod ContentLemmas
pub mod HeaderLemmas
pub mod ItemLemmas
pub mod NumberLemmas
pub mod PlacesReadLemmas
pub mod PrimitiveLemmas
pub mod RecordWindowLemmas
pub mod SaidLemmas
mod StreamExamples
mod TypeExamples
pub mod TypePlaceLemmas
pub mod TypeRecordLemmas
