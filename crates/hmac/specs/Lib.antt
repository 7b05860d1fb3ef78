pub mod Hmac
pub mod Hashers
pub mod Macs
