pub mod ServedLemmas
pub mod WantLemmas
pub mod TransferLemmas
pub mod RepliesLemmas
