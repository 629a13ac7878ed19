pub mod ReadLemmas
pub mod PlanLemmas
pub mod TaskRuleLemmas
pub mod CircleLemmas
pub mod DepthLemmas
pub mod RefusalLemmas
pub mod BlameLemmas
