pub mod BareLemmas
pub mod ConnectionLemmas
pub mod ErrorLemmas
pub mod PlainLemmas
pub mod ReplyLemmas
pub mod StreamLemmas
