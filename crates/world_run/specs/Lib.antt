pub mod Entries
pub mod Judgements
pub mod Numbered
pub mod Phases
pub mod Words
pub mod Transfers
pub mod World
