pub mod OrderLemmas
pub mod PlainFileLemmas
pub mod RecordLemmas
pub mod SpellLemmas
pub mod TextBackLemmas
pub mod WordsBackLemmas
