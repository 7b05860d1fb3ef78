pub mod EqLemmas
pub mod ListLemmas
pub mod RecordLemmas
pub mod ErrorTsigLemmas
pub mod SizeLemmas
pub mod NoRecords
mod ReadBack
mod PutBack
mod SignedAlone
