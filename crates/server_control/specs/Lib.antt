pub mod FileZone
