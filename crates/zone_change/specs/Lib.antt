pub mod Change
pub mod Apart
pub mod Message
pub mod Messages
pub mod Summary
pub use Rattle.update_core.specs.Act
