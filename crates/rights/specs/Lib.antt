pub mod Address
pub mod Rights
