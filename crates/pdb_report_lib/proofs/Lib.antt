pub mod ReportLemmas
pub mod FileReportLemmas
pub mod ListLemmas
pub mod ContextLemmas
pub mod AnswerTextLemmas
pub mod RunLemmas
