-- The state of a store on disk, also while its next zone text is written (own).
use Rattle.std.specs.Prelude.{◌≡◌, ◌⊎◌, ◌≤◌, ℕ, List, Option, Some, take, drop, map, length}
use Rattle.dns_rdata.specs.Record.{Record}
use Rattle.dns_message.specs.declared.update.Update.{Update}
use Rattle.update_core.specs.Act.{replay}
use Rattle.journal.specs.Batch.{Messages, batch_of}
use Rattle.journal.specs.Log.{Holds, IsStuck}
use Rattle.store_compaction.specs.declared.marked.Compaction.{Compaction}
use Rattle.store_compaction.specs.declared.writer.StoreWriter.{StoreWriter}
use Rattle.store_compaction.specs.End.{IsEndOf}
use Rattle.store_compaction.specs.Marked.{number_of, IsMarked}
use Rattle.store_compaction.specs.Writer.{log_of, recent_of, head_of, under_way_of}
use Rattle.store_compaction.specs.TextWriter.{Wanted}

-- the requested text is that of the version after the first updates of a store, at most the first k, and the compaction has the batches after it
pub record IsNext (batches : List (List Messages)) (zone : List Record) (updates : List Update) (k : ℕ) (compaction : Compaction) (wanted : Wanted) : Type 0 where
  pub first : ℕ
  pub older : first ≤ k
  pub version : wanted.next.version.zone ≡ replay zone (take first updates)
  pub marked : IsMarked first batches compaction

module _ {D F : Type 0} (written synced : D → List ℕ) where
  -- a store is consistent: it has this zone text and its journal has these batches, which are on disk, and nothing after them was reported as stored. Or the log accepts no more
  -- batches, and these are on disk. The writer's recent updates are the end of that store. The data kept by the current compaction belongs to the requested text, if that has its
  -- number
  pub record Stands (text : List ℕ) (batches : List (List Messages)) (zone : List Record) (updates : List Update) (k : ℕ) (writer : StoreWriter D F) (wanted : Option Wanted) : Type 0 where
    pub end : IsEndOf text (head_of writer) batches zone updates (recent_of writer) k
    pub log : Holds written synced (head_of writer) (log_of writer) (map batch_of batches) ⊎ IsStuck synced (head_of writer) (log_of writer) (map batch_of batches)
    pub origin : (other : Wanted) → wanted ≡ Some other → other.origin ≡ (head_of writer).origin
    pub next : (compaction : Compaction) (other : Wanted) → under_way_of writer ≡ Some compaction → wanted ≡ Some other → number_of compaction ≡ other.next.number
        → IsNext batches zone updates k compaction other

  -- a store is consistent whose versions are those of another one after its first n. Its zone text may differ, and so may the division into batches
  pub record StandsFrom (zone : List Record) (updates : List Update) (writer : StoreWriter D F) (wanted : Option Wanted) : Type 0 where
    pub n : ℕ
    pub within : n ≤ length updates
    pub text : List ℕ
    pub batches : List (List Messages)
    pub k : ℕ
    pub is_present : Stands text batches (replay zone (take n updates)) (drop n updates) k writer wanted
