pub mod GoingLemmas
pub mod PendingLemmas
pub mod PendingRepliedLemmas
pub mod SendLemmas
