pub mod PlaceLemmas
pub mod HistoryLemmas
pub mod ChainLemmas
pub mod SendLemmas
