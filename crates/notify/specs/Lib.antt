pub mod Notify
pub mod Copies
pub mod Notified
pub mod Turns
pub mod Course
pub mod Runs
pub mod Large
