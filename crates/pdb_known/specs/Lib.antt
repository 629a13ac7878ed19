pub mod SameEntries
pub mod SameModules
pub mod Known
pub mod StrictlyClosed
