pub mod RemainingMessages
pub mod Going
pub mod PendingUpdates
pub mod State
