mod DbiExamples
pub mod ModuleLemmas
