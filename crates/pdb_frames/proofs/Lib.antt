pub mod GivesLemmas
pub mod OriginLemmas
pub mod RowLemmas
pub mod LentNameLemmas
