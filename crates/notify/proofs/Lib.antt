pub mod NotifyLemmas
pub mod TurnLemmas
pub mod CourseLemmas
pub mod RunLemmas
