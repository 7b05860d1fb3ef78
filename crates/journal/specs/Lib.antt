pub mod Batch
pub mod Disk
pub mod Frame
pub mod Head
pub mod Log
pub mod Private
pub mod Recovered
pub mod Tail
