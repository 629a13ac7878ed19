pub mod ModulesAlone
pub mod SameFronts
pub mod SameStreams
