-- Where values may be sent to another thread and be shared by threads, a history of their versions may be sent, and so may owners of these.
use denote.RattleType.{RattleType}
use denote.Ref.{NamedLft}
use denote.Param.Send.{IsSend, IsSync, sendable}
use Rattle.arrayvec.proofs.array_vec.ArrayVec.TheSendSync as array_vec
use Rattle.arrayvec.proofs.cells.Cells.TheSendSync as cells
use Rattle.std.proofs.Crossing as crossing
use Rattle.std.proofs.option.Option.TheSendSync as option
use Rattle.cell_core.specs.declared.follows.Follows as follows
use Rattle.counted_handles.specs.declared.names.Names as names
use Rattle.snapshot_cell.proofs.SendLemmas as cell
use Rattle.snapshot_cell.specs.declared.named.Naming as naming
use Rattle.weak_history.specs.contracts.entry.Entry as entry
use Rattle.weak_history.specs.contracts.history.History as history
use Rattle.weak_history.specs.contracts.owners.Owners as owners

module _ (T C : RattleType) (g : names.Ghosts C.Denot T.Denot) (g' : follows.Ghosts C.Denot T.Denot) (s : IsSend T) (y : IsSync T) (N : RattleType) (n : naming.Ghosts N.Denot) where
  entry_send : (a : NamedLft) → IsSend (entry.the_row a T C N g g' n)
  entry_send a = search (cell.crosses, crossing.crosses, sendable) depth 60 fits 20000

  pub history_send : (a : NamedLft) → IsSend (history.the_row a T C N g g' n)
  history_send a = search (entry_send, array_vec.the_send, cells.the_field_send, option.the_field_send, option.the_send, crossing.crosses, sendable) depth 60 fits 20000

  pub owners_send : (a : NamedLft) → IsSend (owners.the_row a T C N g g' n)
  owners_send a = search (array_vec.the_send, cells.the_field_send, option.the_field_send, option.the_send, cell.crosses, crossing.crosses, sendable) depth 60 fits 20000

-- a history with owners that it gives, as a set for search
pub ruleset crosses = (history_send, owners_send)
