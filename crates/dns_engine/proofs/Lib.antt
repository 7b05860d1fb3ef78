pub mod ReplayLemmas
pub mod OwnedLemmas
pub mod OutcomeLemmas
pub mod SendLemmas
pub mod ChainLemmas
pub mod EntryLemmas
pub mod FreeLemmas
pub mod ThroughLemmas
