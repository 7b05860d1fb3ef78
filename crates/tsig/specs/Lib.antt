pub mod Digested
pub mod Fields
pub mod Keys
pub mod Replies
pub mod Signing
pub mod SignedBy
pub mod Tsig
pub mod Verification
