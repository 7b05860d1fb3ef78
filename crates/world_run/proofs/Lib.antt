pub mod CallLemmas
pub mod EntryLemmas
pub mod JudgeLemmas
pub mod PlayLemmas
pub mod StepLemmas
