pub mod Joined
pub mod Prepared
