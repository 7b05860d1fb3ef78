-- The effects of compactions on files (own).
use Rattle.std.specs.Prelude.{◌≡◌, ◌≢◌, ◌⊎◌, ℕ, Bool, true, false, List, Some, None}
use Rattle.dns_rdata.specs.Record.{Record}
use Rattle.journal.specs.declared.heads.Head.{Head}
use Rattle.journal.specs.declared.heads.TextSum.{TextSum}
use Rattle.journal.specs.Log.{Holds, IsStuck, is_stuck}
use Rattle.store_files.specs.declared.file.FileDisk.{FileDisk}
use Rattle.store_files.specs.File.{written, synced}
use Rattle.store_files.specs.declared.pair.PairFault.{PairFault}
use Rattle.store_files.specs.declared.pair.PairFault.TheVariants.{Before, Unknown}
use Rattle.store_recovery.specs.Created.{IsCreated}
use Rattle.store_compaction.specs.declared.marked.Compaction.{Compaction}
use Rattle.store_compaction.specs.declared.writer.StoreWriter.{StoreWriter}
use Rattle.store_compaction.specs.Marked.{bodies_of, number_of}
use Rattle.store_compaction.specs.Writer.{log_of, head_of, under_way_of, IsOver}

-- a head is that of a zone text with which a store of this zone is created
abbrev pub BeginsText : List Record → ℕ → List ℕ → TextSum → Head → Type 0
BeginsText zone number random origin head = (text : List ℕ) × IsCreated zone number random origin text head

-- a writer continues with the journal of a head, with the batches kept by its compaction, which was under way for the text with the head's number. Or no such compaction is under
-- way, and the writer is unchanged
abbrev pub GoesOn : {F : Type 0} → Head → StoreWriter FileDisk F → StoreWriter FileDisk F → Bool → Type 0
GoesOn head old new true = (compaction : Compaction) × (under_way_of old ≡ Some compaction) × (number_of compaction ≡ head.number) × Holds written synced head (log_of new) (bodies_of compaction)
    × (head_of new ≡ head) × (under_way_of new ≡ None)
GoesOn head old new false = IsOver (under_way_of old) head.number × (new ≡ old)

-- after a fault the writer is unchanged; if it is unknown which journal a crash leaves, it appends nothing more
abbrev pub Stops : {F : Type 0} → PairFault → StoreWriter FileDisk F → StoreWriter FileDisk F → Type 0
Stops (Before fault) old new = new ≡ old
Stops (Unknown fault) old new = (is_stuck (log_of new) ≡ true)
    × ((head : Head) (bodies : List (List ℕ)) → Holds written synced head (log_of old) bodies ⊎ IsStuck synced head (log_of old) bodies → IsStuck synced head (log_of new) bodies)
    × (head_of new ≡ head_of old) × (under_way_of new ≡ None)

-- no text but the writer's own may be needed: no compaction is under way, and the log is not stuck. Otherwise another text may be needed
abbrev pub IsSettled : {F : Type 0} → StoreWriter FileDisk F → Bool → Type 0
IsSettled writer true = (under_way_of writer ≡ None) × (is_stuck (log_of writer) ≡ false)
IsSettled writer false = (under_way_of writer ≢ None) ⊎ (is_stuck (log_of writer) ≡ true)
