use Rattle.std.proofs.Common.{◌≡◌, ◌-◌, ◌≤◌, vec_len}
use Rattle.std.specs.Vec.{vec_capacity}
use Rattle.std.specs.List.{All}
use Rattle.counted_handles.specs.Opens.{IsBegun}
use Rattle.snapshot_cell.specs.Tokens.{IsDealing, limited_reader}
use Rattle.snapshot_cell.proofs.cell.deal_all.Given as goal

abbrev pub invariant-loop-dealt : goal.invariant-loop-dealt
invariant-loop-dealt g l = record {
  within : l.dealt ≤ l.count;
  cell : l.badge.table_id ≡ l.initial.badge.table_id;
  id : l.badge.id ≡ l.initial.badge.id;
  dealing : (value : g.row.T.Denot) → IsBegun value l.words.table_id.views_name l.initial.badge.views → IsDealing value l.words.table_id.views_name l.dealt l.grants l.badge.views;
  readers : (value : g.row.T.Denot) → IsBegun value l.words.table_id.views_name l.initial.badge.views → All (λ r. r ≡ limited_reader l.grants l.words.table_id value) l.readers.items;
  count : vec_len l.readers ≡ l.dealt;
  room : vec_capacity l.readers ≡ vec_capacity l.initial.readers;
}

abbrev pub decreases-loop-dealt : goal.decreases-loop-dealt
decreases-loop-dealt g l = l.count - l.dealt
