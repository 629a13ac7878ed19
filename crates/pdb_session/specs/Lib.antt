pub mod CodeOwners
pub mod Definitions
pub mod FileParts
pub mod FrontStreams
pub mod MarkedItems
pub mod Session
pub mod UntoldRepairs
