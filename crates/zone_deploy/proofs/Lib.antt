pub mod FrameLemmas
pub mod SignedLemmas
pub mod TransferLemmas
