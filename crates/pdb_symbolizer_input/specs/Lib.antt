pub mod EndReasons
pub mod ExitStatuses
pub mod FileContents
pub mod ImageBases
pub mod NameOptions
