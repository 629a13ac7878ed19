pub mod AskedLemmas
pub mod SamePlans
pub mod SameDocuments
pub mod ChainLemmas
