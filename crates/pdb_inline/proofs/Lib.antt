pub mod SiteLemmas
pub mod CoveredLemmas
pub mod ContainedLemmas
pub mod NestingLemmas
pub mod InsideLemmas
pub mod InlineRangeLemmas
pub mod CoverLemmas
pub mod InlineStackLemmas
pub mod WellNestedLemmas
pub mod DirectlyInsideLemmas
pub mod StackEntryLemmas
pub mod PickedLemmas
pub mod LastPickedLemmas
pub mod DepthTableLemmas
pub mod RangeBoundLemmas
pub mod StackLemmas
pub mod StackTableLemmas
mod ProcedureStackLemmas
