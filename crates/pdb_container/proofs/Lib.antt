mod DebugExamples
pub mod DebugLemmas
pub mod FeatureLemmas
mod InfoExamples
pub mod InfoLemmas
mod ModuleExamples
pub mod ModuleLemmas
pub mod NameLemmas
pub mod RecordLemmas
mod TypeExamples
