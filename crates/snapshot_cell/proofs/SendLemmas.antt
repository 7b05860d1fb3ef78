-- Where its values may be sent to another thread and be shared by threads, a cell may be both, and so may its owners; and its
-- publisher may be sent. A reader may be sent whatever its values are.
use denote.RattleType.{RattleType}
use denote.Ref.{NamedLft}
use denote.Param.Send.{IsSend, IsSync, sendable}
use Rattle.std.proofs.Crossing as crossing
use Rattle.std.proofs.alloc.Global.TheSendSync as heap
use Rattle.std.proofs.option.Option.TheSendSync as option
use Rattle.std.specs.contracts.alloc.Global as Global
use Rattle.std.specs.contracts.impls.GlobalAllocator.TheImpl as heap_impl
use Rattle.std.specs.contracts.option.Option as Option
use Rattle.core.proofs.marker.PhantomData.TheSendSync as phantom
use Rattle.atomic_table.proofs.badge.Badge.TheSendSync as badge
use Rattle.atomic_table.proofs.owned.Table.TheSendSync as table
use Rattle.atomic_table.proofs.shared.Shared.TheSendSync as shared
use Rattle.atomic_table.specs.contracts.owned.Table as Table
use Rattle.raw_slots.proofs.bare.Bare.TheSendSync as bare
use Rattle.raw_slots.proofs.place.Held.TheSendSync as held
use Rattle.raw_slots.proofs.place.Place.TheSendSync as place
use Rattle.raw_slots.proofs.place.Spot.TheSendSync as spot
use Rattle.raw_slots.specs.contracts.bare.Bare as Bare
use Rattle.raw_slots.specs.contracts.place.Place as Place
use Rattle.cell_core.proofs.words.Version.TheSendSync as version
use Rattle.cell_core.specs.contracts.words.Version as Version
use Rattle.cell_core.specs.declared.follows.Follows as follows
use Rattle.counted_handles.specs.contracts.owner.Strong as Strong
use Rattle.counted_handles.specs.contracts.rule.Rule as Rule
use Rattle.counted_handles.specs.contracts.rule.RuleTableRuleRoomViewSpots.TheImpl as rule_impl
use Rattle.counted_handles.specs.contracts.rule.Spots as Spots
use Rattle.counted_handles.specs.contracts.view.View as View
use Rattle.counted_handles.specs.contracts.weak.Weak as Weak
use Rattle.counted_handles.specs.declared.names.Names as names
use Rattle.snapshot_cell.proofs.named.NamedReader.TheSendSync as named_reader
use Rattle.snapshot_cell.proofs.tokens.Reader.TheSendSync as reader
use Rattle.snapshot_cell.specs.contracts.cell.Cell as Cell
use Rattle.snapshot_cell.specs.contracts.further.NamedWeak as NamedWeak
use Rattle.snapshot_cell.specs.contracts.named.NamedCell as NamedCell
use Rattle.snapshot_cell.specs.contracts.named.NamedPublisher as NamedPublisher
use Rattle.snapshot_cell.specs.contracts.named_owner.NamedStrong as NamedStrong
use Rattle.snapshot_cell.specs.contracts.tokens.Publisher as Publisher
use Rattle.snapshot_cell.specs.declared.named.Naming as naming

-- what lies in a place
abbrev older : RattleType → RattleType
older T = Option.the_row (Version.the_row T)

abbrev room : RattleType → RattleType
room T = Place.the_row (older T) (View.the_row T)

module _ (T : RattleType) (s : IsSend T) where
  older_send : IsSend (older T)
  older_send = search (version.the_send, option.the_send, sendable) depth 60 fits 20000

  bare_send : IsSend (Bare.the_row (older T) Global.the_row heap_impl.ghosts)
  bare_send = bare.the_send (older T) Global.the_row heap_impl.ghosts older_send heap.the_send crossing.frees

  bare_sync : IsSync (Bare.the_row (older T) Global.the_row heap_impl.ghosts)
  bare_sync = bare.the_sync (older T) Global.the_row heap_impl.ghosts older_send heap.the_send crossing.frees

module _ (T : RattleType) (y : IsSync T) where
  older_sync : IsSync (older T)
  older_sync = search (version.the_sync, option.the_sync, sendable) depth 60 fits 20000

module _ (T : RattleType) where
  spots_send : IsSend (Spots.the_field T).row
  spots_send = search (spot.the_send, crossing.crosses, sendable) depth 60 fits 20000

  spots_sync : IsSync (Spots.the_field T).row
  spots_sync = search (spot.the_sync, crossing.crosses, sendable) depth 60 fits 20000

module _ (T : RattleType) (s : IsSend T) (y : IsSync T) where
  room_send : IsSend (room T)
  room_send = place.the_send (older T) (View.the_row T) (older_send T s) (older_sync T y)

module _ (T C : RattleType) (g : names.Ghosts C.Denot T.Denot) (g' : follows.Ghosts C.Denot T.Denot) where
  pub publisher_send : IsSend (Publisher.the_row T C g g')
  publisher_send = search (badge.the_send, phantom.the_field_send, crossing.crosses, sendable) depth 60 fits 20000

  module _ (N : RattleType) (n : naming.Ghosts N.Denot) where
    pub named_publisher_send : IsSend (NamedPublisher.the_row T C N g g' n)
    named_publisher_send = search (publisher_send, phantom.the_field_send, sendable) depth 60 fits 20000

  module _ (s : IsSend T) (y : IsSync T) where
    abbrev table_row : denote.Struct.Field.Field
    table_row = Table.the_field (room T) (View.the_row T) (Spots.the_row T) (Rule.the_row C) Global.the_row (rule_impl.ghosts T C g rule_impl.no_dict g' rule_impl.no_dict) heap_impl.ghosts

    table_send : IsSend table_row.row
    table_send =
        table.the_field_send (room T) (View.the_row T) (Spots.the_row T) (Rule.the_row C) Global.the_row (rule_impl.ghosts T C g rule_impl.no_dict g' rule_impl.no_dict) heap_impl.ghosts (room_send T s y) heap.the_send crossing.frees

    table_sync : IsSync table_row.row
    table_sync =
        table.the_field_sync (room T) (View.the_row T) (Spots.the_row T) (Rule.the_row C) Global.the_row (rule_impl.ghosts T C g rule_impl.no_dict g' rule_impl.no_dict) heap_impl.ghosts (room_send T s y) heap.the_send heap.the_sync crossing.frees

    pub cell_send : IsSend (Cell.the_row T C g g')
    cell_send = search (table_send, spots_send, bare_send, heap.the_send, heap.the_field_send, sendable) depth 60 fits 20000

    pub cell_sync : IsSync (Cell.the_row T C g g')
    cell_sync = search (table_sync, spots_sync, bare_sync, heap.the_sync, heap.the_field_sync, sendable) depth 60 fits 20000

    pub strong_send : (a : NamedLft) → IsSend (Strong.the_row a T C g g')
    strong_send a =
        let older = older_sync T y in
        let room = room_send T s y in
        search (shared.the_sync, spots_sync, held.the_send, option.the_send, crossing.crosses, sendable) depth 60 fits 20000

    pub strong_sync : (a : NamedLft) → IsSync (Strong.the_row a T C g g')
    strong_sync a =
        let older = older_sync T y in
        let room = room_send T s y in
        search (shared.the_sync, spots_sync, held.the_sync, option.the_sync, crossing.crosses, sendable) depth 60 fits 20000

    pub weak_send : (a : NamedLft) → IsSend (Weak.the_row a T C g g')
    weak_send a =
        let older = older_sync T y in
        let room = room_send T s y in
        search (shared.the_sync, spots_sync, badge.the_send, crossing.crosses, sendable) depth 60 fits 20000

    module _ (N : RattleType) (n : naming.Ghosts N.Denot) where
      pub named_weak_send : (a : NamedLft) → IsSend (NamedWeak.the_row a T C N g g' n)
      named_weak_send a = search (weak_send, phantom.the_field_send, sendable) depth 60 fits 20000

      pub named_strong_send : (a : NamedLft) → IsSend (NamedStrong.the_row a T C N g g' n)
      named_strong_send a = search (strong_send, phantom.the_field_send, sendable) depth 60 fits 20000

      pub named_strong_sync : (a : NamedLft) → IsSync (NamedStrong.the_row a T C N g g' n)
      named_strong_sync a = search (strong_sync, phantom.the_field_sync, sendable) depth 60 fits 20000

      pub named_cell_send : IsSend (NamedCell.the_row T C N n g g')
      named_cell_send = search (cell_send, phantom.the_field_send, sendable) depth 60 fits 20000

      pub named_cell_sync : IsSync (NamedCell.the_row T C N n g g')
      named_cell_sync = search (cell_sync, phantom.the_field_sync, sendable) depth 60 fits 20000

      pub named_cell_field_send : IsSend (NamedCell.the_field T C N n g g').row
      named_cell_field_send = search (cell_send, phantom.the_field_send, sendable) depth 60 fits 20000

      pub named_cell_field_sync : IsSync (NamedCell.the_field T C N n g g').row
      named_cell_field_sync = search (cell_sync, phantom.the_field_sync, sendable) depth 60 fits 20000

-- a cell with its tokens and owners, as a set for search
pub ruleset crosses = (reader.the_send, cell_send, cell_sync, publisher_send, strong_send, strong_sync, named_strong_send, named_strong_sync, weak_send, named_weak_send, named_reader.the_send, named_cell_send, named_cell_sync, named_cell_field_send, named_cell_field_sync, named_publisher_send)
