pub mod BatchLemmas
pub mod FrameLemmas
pub mod FramesLemmas
pub mod HeadLemmas
mod LogLemmas
pub mod OutlineLemmas
pub mod PartLemmas
pub mod RecoveredLemmas
pub mod StartLemmas
pub mod SummedLemmas
pub mod TailLemmas
pub mod RequestLemmas
