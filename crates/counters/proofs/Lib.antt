pub mod CounterLemmas
pub mod SendLemmas
pub mod SumLemmas
