-- What a crash at any moment leaves of a store (own).
use Rattle.std.specs.Prelude.{◌≡◌, ◌⊎◌, ℕ, List, [], ◌∷◌, ◌++◌}
use Rattle.std.specs.List.{AllByRecursion}
use Rattle.dns_rdata.specs.Record.{Record}
use Rattle.dns_message.specs.declared.update.Update.{Update}
use Rattle.update_core.specs.Act.{replay}
use Rattle.dns_engine.specs.Replayed.{EachChanges}
use Rattle.journal.specs.Batch.{Messages}
use Rattle.journal.specs.declared.heads.Head.{Head}
use Rattle.journal.specs.Head.{IsText}
use Rattle.journal.specs.Log.{disk_of}
use Rattle.journal.specs.Recovered.{BeginsHead}
use Rattle.store_files.specs.declared.file.FileDisk.{FileDisk}
use Rattle.store_files.specs.File.{synced, history}
use Rattle.store_recovery.specs.declared.start.Recovery.{Recovery}
use Rattle.store_recovery.specs.Replay.{AreRead}
use Rattle.store_recovery.specs.Start.{IsStarted}
use Rattle.store_compaction.specs.declared.writer.StoreWriter.{StoreWriter}
use Rattle.store_compaction.specs.Writer.{log_of}
use Rattle.store_compaction.specs.Kept.{CompactedState}

-- a journal of which these bytes are on disk names this zone text, and a start of both, whatever is after these bytes, finds a zone with these updates first, and after them at most
-- updates that were written but are not known to be on disk
pub record IsRecovered (zone : List Record) (updates : List Messages) (text octets : List ℕ) : Type 0 where
  pub head : Head
  pub behind : List ℕ
  pub begins : BeginsHead octets head behind
  pub names : IsText head.text text
  pub found : (left : List ℕ) (start : Recovery) → IsStarted text (octets ++ left) start
      → (all : List Update) × (more : List Update) × AreRead updates all × EachChanges zone (all ++ more) × (start.newest.last.zone ≡ replay zone (all ++ more))

module _ {F : Type 0} where
  -- the journal of a writer is the file that it was; or it is another file, all of which was on disk at each moment since it may have the journal's name
  abbrev pub IsPlaced : StoreWriter FileDisk F → StoreWriter FileDisk F → Type 0
  IsPlaced old new = (disk_of (log_of new) ≡ disk_of (log_of old)) ⊎ (history (disk_of (log_of new)) ≡ synced (disk_of (log_of new)) ∷ [])

  -- from one state of a store to another, what is on disk of its journal after each call since is recovered with these updates first. Where another file is the journal now, that is
  -- so at each moment since it may have the journal's name. Of a file that may have got this name by a rename that could not be synced, after which nothing more is appended, nothing
  -- is said here
  pub data Leaves (zone : List Record) (old new : CompactedState F) (updates : List Messages) : Type 0 where
    same_file : (text : List ℕ) (since : List (List ℕ)) → history (disk_of (log_of new.writer)) ≡ since ++ history (disk_of (log_of old.writer))
        → AllByRecursion (IsRecovered zone updates text) since → Leaves zone old new updates
    replaced : (text : List ℕ) → AllByRecursion (IsRecovered zone updates text) (history (disk_of (log_of new.writer))) → Leaves zone old new updates
