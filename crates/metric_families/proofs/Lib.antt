pub mod BucketLemmas
pub mod EachLemmas
pub mod EndedLemmas
pub mod PutLemmas
