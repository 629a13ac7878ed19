mod AnswerExamples
mod AnswerTextLemmas
mod AppendLemmas
mod FindingLemmas
mod FoundTextLemmas
mod GainLemmas
mod InMapLemmas
mod JsonLemmas
mod NameLemmas
mod OffsetLemmas
mod PlaceLemmas
mod RequestExamples
mod RequestLemmas
pub mod WriteLemmas
