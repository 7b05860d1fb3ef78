pub mod NamedLemmas
pub mod StillLemmas
