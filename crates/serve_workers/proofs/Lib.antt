pub mod ReaderLemmas
pub mod SendLemmas
