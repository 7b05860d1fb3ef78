pub mod Examples
pub mod Fault
pub mod FaultyLine
pub mod Records
pub mod SetOrder
pub mod TextLaws
pub mod WrittenZone
pub mod ZoneText
