pub mod InfoHeader
pub mod CodeView
pub mod DebugIds
pub mod Programs
