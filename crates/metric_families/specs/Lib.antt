pub mod Counted
pub mod Known
pub mod Samples
pub mod Times
pub mod Families
