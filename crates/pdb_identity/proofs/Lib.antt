mod AgeLemmas
mod DebugIdExamples
mod DebugIdLemmas
