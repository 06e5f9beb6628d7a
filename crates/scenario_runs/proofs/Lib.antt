pub mod CommonNames
pub mod ShortLines
pub mod BindLemmas
pub mod WriteLemmas
pub mod PartLemmas
pub mod Beginnings
pub mod LineLemmas
pub mod RunLemmas
