pub mod Buckets
pub mod Exposition
pub mod Families
pub mod Histograms
pub mod Numbers
pub mod Samples
