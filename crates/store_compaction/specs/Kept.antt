-- The effect of each call on a store that is compacted while updates continue (RFC 2136, 3.5; own).
use Rattle.std.specs.Prelude.{◌≡◌, ◌⊎◌, ℕ, List, ◌++◌, Option, length, map, All}
use Rattle.dns_rdata.specs.Record.{Record}
use Rattle.dns_message.specs.declared.update.Update.{Update}
use Rattle.zone_tree.specs.Version.{Version}
use Rattle.journal.specs.Batch.{Messages, batch_of, IsRequest}
use Rattle.journal.specs.Recovered.{updates_in}
use Rattle.journal.specs.Log.{Holds}
use Rattle.store_files.specs.declared.file.FileDisk.{FileDisk}
use Rattle.store_files.specs.File.{written, synced}
use Rattle.update_batches.specs.Batch.{newest_of}
use Rattle.update_batches.specs.Journal.{AreMadeBy}
use Rattle.store_compaction.specs.declared.writer.StoreWriter.{StoreWriter}
use Rattle.store_compaction.specs.RecentUpdates.{AreRecent, last_in}
use Rattle.store_compaction.specs.Writer.{log_of, recent_of, head_of}
use Rattle.store_compaction.specs.TextWriter.{Wanted}
use Rattle.store_compaction.specs.Stands.{Stands, StandsFrom}

-- a compacted store: its writer and the requested text
pub record CompactedState (F : Type 0) : Type 0 where
  pub writer : StoreWriter FileDisk F
  pub wanted : Option Wanted

module _ {F : Type 0} where
  -- a store with this text, these batches and these updates
  abbrev pub IsAt : List ℕ → List (List Messages) → List Record → List Update → ℕ → CompactedState F → Type 0
  IsAt text batches zone updates k state = Stands written synced text batches zone updates k state.writer state.wanted

  -- between two batches the store stays the same, or one of the same versions replaces it
  pub record IsTended (before after : CompactedState F) : Type 0 where
    pub recent : recent_of after.writer ≡ recent_of before.writer
    pub is_present : (text : List ℕ) (batches : List (List Messages)) (zone : List Record) (updates : List Update) (k : ℕ) → IsAt text batches zone updates k before
        → StandsFrom written synced zone updates after.writer after.wanted × ((head_of after.writer).origin ≡ (head_of before.writer).origin)

  -- the store stays the same
  pub record IsKept (before after : CompactedState F) : Type 0 where
    pub recent : recent_of after.writer ≡ recent_of before.writer
    pub origin : (head_of after.writer).origin ≡ (head_of before.writer).origin
    pub is_present : (text : List ℕ) (batches : List (List Messages)) (zone : List Record) (updates : List Update) (k : ℕ) → IsAt text batches zone updates k before
        → IsAt text batches zone updates k after

  -- the store has more updates: those of one more batch, if there are any, which is on disk
  pub record HasMore (text : List ℕ) (batches : List (List Messages)) (zone : List Record) (updates : List Update) (octets : List Messages) (after : CompactedState F) : Type 0 where
    pub all : List (List Messages)
    pub more : List Update
    pub k : ℕ
    pub is_present : IsAt text all zone (updates ++ more) k after
    pub all_are : updates_in all ≡ updates_in batches ++ octets
    pub on_disk : (length octets ≡ 0) ⊎ Holds written synced (head_of after.writer) (log_of after.writer) (map batch_of all)

  -- the updates of these versions, each made from the previous one, come after those of the store, as one batch on disk
  pub record IsStored (before after : CompactedState F) (versions : List Version) (octets : List Messages) : Type 0 where
    pub origin : (head_of after.writer).origin ≡ (head_of before.writer).origin
    pub last : AreRecent (recent_of before.writer) → All IsRequest octets → AreMadeBy (last_in (recent_of before.writer)) versions octets
        → AreRecent (recent_of after.writer) × (last_in (recent_of after.writer) ≡ newest_of (last_in (recent_of before.writer)) versions)
    pub is_present : All IsRequest octets → AreMadeBy (last_in (recent_of before.writer)) versions octets
        → (text : List ℕ) (batches : List (List Messages)) (zone : List Record) (updates : List Update) (k : ℕ) → IsAt text batches zone updates k before
        → HasMore text batches zone updates octets after
