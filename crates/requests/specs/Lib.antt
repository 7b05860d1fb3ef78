pub mod Allowed
pub mod Datagrams
pub mod Exchanged
pub mod Octets
pub mod Served
