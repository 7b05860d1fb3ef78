pub mod Held
pub mod InTurn
pub mod Leads
pub mod Lines
pub mod Replays
pub mod Runs
pub mod UpdateAnswers
