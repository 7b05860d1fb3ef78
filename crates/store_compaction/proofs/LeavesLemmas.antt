-- What a crash leaves at any moment of a call on a store.
use Rattle.std.proofs.Common.{◌≡◌, false, ℕ, List, [], ◌∷◌, ◌++◌, map, Option, inl, inr, sym, ap, ◌∙◌, subst, append-nil, append_assoc}
use Rattle.std.specs.List.{AllByRecursion}
use Rattle.dns_rdata.specs.Record.{Record}
use Rattle.zone_tree.specs.Version.{Version}
use Rattle.journal.specs.declared.heads.Head.{Head}
use Rattle.journal.specs.declared.log.Log.{Log}
use Rattle.journal.specs.Batch.{Messages, batch_of}
use Rattle.journal.specs.Disk.{BeginsWith, LeavesOnly}
use Rattle.journal.specs.Frame.{frames_of}
use Rattle.journal.specs.Head.{head_of as head_octets, salt_of}
use Rattle.journal.specs.Log.{Holds, disk_of, is_stuck, octets_of}
use Rattle.store_files.specs.declared.file.FileDisk.{FileDisk}
use Rattle.store_files.specs.File.{written, synced, history}
use Rattle.store_recovery.specs.Start.{IsStarted}
use Rattle.store_compaction.specs.declared.writer.StoreWriter.{StoreWriter}
use Rattle.store_compaction.specs.TextWriter.{Wanted}
use Rattle.store_compaction.specs.Writer.{log_of, head_of}
use Rattle.store_compaction.specs.Kept.{CompactedState}
use Rattle.store_compaction.specs.Has.{HasUpdates}
use Rattle.store_compaction.specs.Crash.{IsRecovered, IsPlaced, Leaves, same_file, replaced}
use Rattle.store_compaction.proofs.KeptLemmas.{goes_on}
use Rattle.store_compaction.proofs.LawLemmas.{disk_is, kept_recovered}

-- what holds of all octets that begin with some holds of each of these
each_begins : (P : List ℕ → Type 0) (octets : List ℕ) → ((left : List ℕ) → BeginsWith left octets → P left) → (since : List (List ℕ))
    → AllByRecursion (λ left. BeginsWith left octets) since → AllByRecursion P since
each_begins P octets holds [] each = tt
each_begins P octets holds (left ∷ since) each = (holds left each.0, each_begins P octets holds since each.1)

module _ {F : Type 0} where
  -- of a journal that begins with what is on disk of a store's
  begins_recovered : (zone : List Record) (store : CompactedState F) (published : List Version) (updates : List Messages) (has : HasUpdates zone store published updates)
      (octets : List ℕ) → BeginsWith octets (synced (disk_of (log_of store.writer))) → IsRecovered zone updates has.text octets
  begins_recovered zone store published updates has octets begins =
      let there : List ℕ = synced (disk_of (log_of store.writer)) in
      let head : Head = head_of store.writer in
      let frames : List ℕ = frames_of (salt_of head) 0 (map batch_of has.batches) in
      let on_disk : there ≡ head_octets head ++ frames = disk_is head (log_of store.writer) (map batch_of has.batches) has.is_present.log in
      record {
        head = head;
        behind = frames ++ begins.0;
        begins = record {
          is_head = has.is_present.end.store.is_head;
          spelt = begins.1 ∙ (ap (λ (o : List ℕ). o ++ begins.0) on_disk ∙ append_assoc (head_octets head) frames begins.0);
        };
        names = has.is_present.end.store.same_text;
        found = λ left start is. kept_recovered zone store published updates (begins.0 ++ left) start has
            (subst (λ (o : List ℕ). IsStarted has.text o start) (ap (λ (o : List ℕ). o ++ left) begins.1 ∙ append_assoc there begins.0 left) is);
      }

  -- a store on which no call is made
  pub leaves_same : (old new : CompactedState F) → log_of new.writer ≡ log_of old.writer → (zone : List Record) (published : List Version) (updates : List Messages)
      → HasUpdates zone old published updates → Leaves zone old new updates
  leaves_same old new same zone published updates has = same_file has.text [] (ap (λ (l : Log FileDisk F). history (disk_of l)) same) tt

  -- a store whose writer appends a batch
  pub leaves_appended : (before : CompactedState F) (old new : StoreWriter FileDisk F) (wanted : Option Wanted) → record { writer = old; wanted = wanted } ≡ before
      → is_stuck (log_of old) ≡ false
      → ((head : Head) (bodies : List (List ℕ)) → Holds written synced head (log_of old) bodies
      → LeavesOnly (history (disk_of (log_of old))) (history (disk_of (log_of new))) (octets_of head bodies))
      → (zone : List Record) (published : List Version) (updates : List Messages) → HasUpdates zone before published updates
      → Leaves zone before (record { writer = new; wanted = wanted }) updates
  leaves_appended before old new wanted is on crash zone published updates =
      subst (λ (s : CompactedState F). HasUpdates zone s published updates → Leaves zone s (record { writer = new; wanted = wanted }) updates) is
      (λ has.
      let store : CompactedState F = record { writer = old; wanted = wanted } in
      let bodies : List (List ℕ) = map batch_of has.batches in
      let holds : Holds written synced (head_of old) (log_of old) bodies = goes_on (head_of old) (log_of old) bodies has.is_present.log on in
      let only : LeavesOnly (history (disk_of (log_of old))) (history (disk_of (log_of new))) (synced (disk_of (log_of old))) =
      subst (λ (o : List ℕ). LeavesOnly (history (disk_of (log_of old))) (history (disk_of (log_of new))) o) (sym holds.is_synced) (crash (head_of old) bodies holds) in
      same_file has.text only.since only.made
      (each_begins (IsRecovered zone updates has.text) (synced (disk_of (log_of old))) (begins_recovered zone store published updates has) only.since only.each))

  -- a store that is tended: the journal stays the same file, or another file is the journal
  pub leaves_tended : (before mid after : CompactedState F) → IsPlaced before.writer mid.writer → log_of after.writer ≡ log_of mid.writer
      → (zone : List Record) (published : List Version) (updates : List Messages) → HasUpdates zone before published updates → HasUpdates zone after published updates
      → Leaves zone before after updates
  leaves_tended before mid after (inl same) log zone published updates had has =
      same_file had.text [] (ap history (ap (λ (l : Log FileDisk F). disk_of l) log ∙ same)) tt
  leaves_tended before mid after (inr fresh) log zone published updates had has =
      let there : List ℕ = synced (disk_of (log_of after.writer)) in
      let whole : history (disk_of (log_of after.writer)) ≡ there ∷ [] =
      subst (λ (l : Log FileDisk F). history (disk_of l) ≡ synced (disk_of l) ∷ []) (sym log) fresh in
      replaced has.text (subst (λ (h : List (List ℕ)). AllByRecursion (IsRecovered zone updates has.text) h) (sym whole)
      (begins_recovered zone after published updates has there ([], sym (append-nil there)), tt))
