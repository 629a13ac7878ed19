pub mod NameTexts
pub mod CachedNames
pub mod Function
pub mod Frames
