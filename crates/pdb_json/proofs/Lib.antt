pub mod JsonLemmas
pub mod FirstVersionLemmas
pub mod MemberLemmas
pub mod TextLemmas
