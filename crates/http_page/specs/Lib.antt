pub mod Graph
pub mod Health
pub mod Html
pub mod Overview
pub mod Page
pub mod PageRequest
pub mod Reply
