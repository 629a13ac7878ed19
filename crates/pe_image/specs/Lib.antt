pub mod NumbersAt
pub mod Headers
pub mod Image
pub mod ExceptionDirectory
pub mod Arm64Directory
pub mod DebugDirectory
