pub mod PrintErrors
pub mod Circles
pub mod Picks
pub mod Blame
