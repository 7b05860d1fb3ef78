pub mod Places
pub mod Rows
pub mod Chains
pub mod Bare
