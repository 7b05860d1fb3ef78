pub mod Options
pub mod Refused
