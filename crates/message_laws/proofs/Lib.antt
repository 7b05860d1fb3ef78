pub mod AgainLemmas
pub mod AnsweredLemmas
pub mod AskedLemmas
pub mod ExpandedLemmas
pub mod OptAgainLemmas
pub mod SectionLemmas
