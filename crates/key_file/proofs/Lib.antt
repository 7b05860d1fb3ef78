-- Lemmas of this crate.
pub mod KeyLemmas
