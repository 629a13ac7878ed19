pub mod ChunkLemmas
pub mod LineLemmas
pub mod PlaceLemmas
mod FileExamples
mod LineExamples
mod SiteExamples
mod SymbolExamples
pub mod SymbolRecordLemmas
