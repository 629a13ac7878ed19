pub mod ChangedLemmas
pub mod OwnerLemmas
pub mod EdgeLemmas
pub mod IntervalLemmas
pub mod OwnsLemmas
pub mod ApartLemmas
pub mod RetainedLemmas
