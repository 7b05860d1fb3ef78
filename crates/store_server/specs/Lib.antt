pub mod Failures
pub mod Private
pub mod OpenStore
pub mod Served
pub mod Started
pub mod TakeZone
