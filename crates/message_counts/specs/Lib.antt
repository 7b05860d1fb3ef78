pub mod Counts
pub mod Places
pub mod Replies
pub mod Transfers
