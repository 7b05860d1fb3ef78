pub mod ChainLemmas
pub mod LawLemmas
pub mod RecoveredLemmas
pub mod ResumedLemmas
pub mod ServedLemmas
mod TakeZoneLemmas
mod TakeZoneStartLemmas
