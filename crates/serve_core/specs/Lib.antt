pub mod Heading
pub mod Replies
pub mod Reply
pub mod Served
pub mod Transfers
pub mod Transport
