pub mod AnsweredRequests
pub mod AnswersInOrder
pub mod EarlyEnds
pub mod FileRuns
pub mod InputLines
pub mod PublicNames
