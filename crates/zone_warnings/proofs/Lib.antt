pub mod NameLemmas
pub mod LineLemmas
