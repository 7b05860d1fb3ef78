-- A store that a server has open, and its writer (own).
use Rattle.journal.specs.Batch.{Messages}
use Rattle.std.specs.Prelude.{◌≡◌, ◌⊎◌, ℕ, List, None}
use Rattle.std.specs.declared.io.Error.{Error as IoError}
use Rattle.dns_rdata.specs.Record.{Record}
use Rattle.dns_message.specs.declared.update.Update.{Update}
use Rattle.zone_tree.specs.Version.{Version}
use Rattle.store_files.specs.declared.file.FileDisk.{FileDisk}
use Rattle.store_files.specs.File.{written, synced}
use Rattle.update_batches.specs.Batch.{newest_of}
use Rattle.store_recovery.specs.declared.start.Recovery.{Recovery}
use Rattle.store_compaction.specs.declared.writer.StoreWriter.{StoreWriter}
use Rattle.store_compaction.specs.RecentUpdates.{last_in}
use Rattle.store_compaction.specs.Writer.{recent_of}
use Rattle.store_compaction.specs.Stands.{Stands}
use Rattle.store_server.specs.declared.resume.OpenStore.{OpenStore}
use Rattle.store_server.specs.Started.{GoesOn, IsCreatedStore}

-- a store from a start: one that was reopened, or one that was created with a zone
abbrev pub IsGiven : OpenStore → Type 0
IsGiven store = ((text : List ℕ) × (octets : List ℕ) × (start : Recovery) × GoesOn text octets start store)
    ⊎ ((zone : List Record) × (number : ℕ) × (random : List ℕ) × (given : List ℕ) × IsCreatedStore zone number random given store)

-- the writer of a store: its state holds, with no next zone file, and its recent updates end at the last of these versions
pub record WritesOn (first : Version) (later : List Version) (writer : StoreWriter FileDisk IoError) : Type 0 where
  pub text : List ℕ
  pub batches : List (List Messages)
  pub zone : List Record
  pub updates : List Update
  pub k : ℕ
  pub is_present : Stands written synced text batches zone updates k writer None
  pub last : last_in (recent_of writer) ≡ newest_of first later
