pub mod GivenBack
pub mod Ended
pub mod Lost
pub mod SignedNotify
pub mod WokenKeys
pub mod TakenKeys
