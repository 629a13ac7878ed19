pub mod ElementLemmas
