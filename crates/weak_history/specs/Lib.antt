pub mod Places
pub mod History
pub mod Owned
pub use Rattle.transfer_core.specs.Window
pub use Rattle.snapshot_cell.specs.Tokens
