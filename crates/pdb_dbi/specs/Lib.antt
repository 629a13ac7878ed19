pub mod ContributionSubstream
pub mod DebugHeader
pub mod ModuleSubstream
pub mod OptionalStreams
pub mod PublishedNumbers
pub mod SectionHeaders
pub mod Substreams
