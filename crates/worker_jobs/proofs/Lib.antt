pub mod SendLemmas
pub mod EachLemmas
pub mod ListLemmas
pub mod TurnedLemmas
pub mod WokenLemmas
