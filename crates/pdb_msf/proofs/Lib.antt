mod ContainerExamples
pub mod BlockLemmas
pub mod EndLemmas
pub mod ExcerptLemmas
pub mod ExtentLemmas
pub mod FrontLemmas
pub mod HeldLemmas
pub mod ItemListLemmas
pub mod KnownLemmas
pub mod NumberLemmas
pub mod OthersLemmas
pub mod RangeLemmas
pub mod SizeLemmas
pub mod StreamLemmas
