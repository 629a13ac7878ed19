mod AnswerExamples
mod AppendLemmas
mod LastByteLemmas
mod NumeralLemmas
mod PrefixLemmas
mod WordLemmas
