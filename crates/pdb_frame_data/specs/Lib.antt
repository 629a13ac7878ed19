pub mod FrameData
pub mod FpoData
pub mod FrameStreams
pub mod StackWinText
pub mod ParameterSizes
pub mod StackWin
