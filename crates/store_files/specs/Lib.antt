pub mod Calls
pub mod File
pub mod Names
pub mod Placed
pub mod Read
pub mod Still
pub mod Store
