pub mod EntryLemmas
mod Examples
