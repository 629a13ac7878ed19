pub mod ExpansionLemmas
pub mod PathNameLemmas
pub mod JsonLemmas
mod LinkExamples
pub mod NumberedLemmas
mod ServerExamples
pub mod ServerFileLemmas
pub mod ServerLemmas
pub mod TextLemmas
