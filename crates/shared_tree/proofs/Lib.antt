pub mod LawLemmas
pub mod LinkLemmas
pub mod PairLemmas
pub mod PartLemmas
pub mod RunLemmas
pub mod WayLemmas
