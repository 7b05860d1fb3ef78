pub mod HistoryLemmas
pub mod SendLemmas
pub mod TokenLemmas
pub mod EndLemmas
