pub mod RightsLemmas
pub mod SendLemmas
