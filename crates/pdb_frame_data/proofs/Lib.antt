mod Examples
pub mod TextLemmas
