pub mod Tokens
pub use Rattle.counted_handles.specs.History
pub use Rattle.cell_core.specs.Cell
