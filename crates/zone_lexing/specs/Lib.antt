pub mod Entries
pub mod Items
pub mod Lines
pub mod Order
pub mod Place
pub mod Spelling
pub mod Steps
pub mod Word
