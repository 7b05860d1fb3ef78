-- Laws of stores that are compacted.
use Rattle.std.proofs.Common.{◌≡◌, ℕ, ◌+◌, List, ◌++◌, length, map, inl, inr, subst}
use Rattle.dns_rdata.specs.Record.{Record}
use Rattle.dns_message.specs.declared.update.Update.{Update}
use Rattle.zone_tree.specs.Version.{Version}
use Rattle.update_core.specs.Act.{replay}
use Rattle.dns_engine.specs.Replayed.{EachChanges}
use Rattle.journal.specs.declared.heads.Head.{Head}
use Rattle.journal.specs.Batch.{Messages, batch_of}
use Rattle.journal.specs.Recovered.{journal_of}
use Rattle.journal.proofs.RecoveredLemmas.{synced_recovered}
use Rattle.journal.specs.declared.log.Log.{Log}
use Rattle.journal.specs.Log.{disk_of, octets_of as journal_octets}
use Rattle.store_files.specs.declared.file.FileDisk.{FileDisk}
use Rattle.store_files.specs.File.{written, synced}
use Rattle.store_recovery.specs.declared.start.Recovery.{Recovery}
use Rattle.store_recovery.specs.Replay.{AreRead}
use Rattle.store_recovery.specs.Start.{IsStarted}
use Rattle.store_recovery.proofs.StoreLemmas.{synced_taken}
use Rattle.store_compaction.specs.RecentUpdates.{last_in}
use Rattle.store_compaction.specs.Writer.{log_of, recent_of, head_of}
use Rattle.store_compaction.proofs.EndLemmas.{last_is, compaction_started}
use Rattle.store_compaction.specs.Stands.{StandsFrom}
use Rattle.store_compaction.specs.Kept.{CompactedState, IsAt}
use Rattle.store_compaction.specs.Has.{HasUpdates}
use Rattle.store_compaction.proofs.StandsLemmas.{IsOnDisk}
use Rattle.store_compaction.proofs.HasLemmas.{has_recovered}

module _ {F : Type 0} where
  -- what is on the disk
  pub disk_is : (head : Head) (log : Log FileDisk F) (bodies : List (List ℕ)) → IsOnDisk written synced head log bodies → synced (disk_of log) ≡ journal_octets head bodies
  disk_is head log bodies (inl holds) = holds.is_synced
  disk_is head log bodies (inr stuck) = stuck.is_synced

  pub crash_has_last : (text : List ℕ) (batches : List (List Messages)) (zone : List Record) (updates : List Update) (k : ℕ) (state : CompactedState F) (left : List ℕ) (start : Recovery)
      → IsAt text batches zone updates k state → IsStarted text (synced (disk_of (log_of state.writer)) ++ left) start
      → ((last_in (recent_of state.writer)).zone ≡ replay zone updates) × (start.head ≡ head_of state.writer)
      × ((more : List Update) × EachChanges zone (updates ++ more) × (start.newest.last.zone ≡ replay zone (updates ++ more)) × (start.newest.last.number ≡ length (updates ++ more)))
  crash_has_last text batches zone updates k state left start at is =
      let head : Head = head_of state.writer in
      let here : IsStarted text (journal_of head batches ++ left) start =
      subst (λ (o : List ℕ). IsStarted text (o ++ left) start) (disk_is head (log_of state.writer) (map batch_of batches) at.log) is in
      let store = at.end.store in
      let found = synced_recovered text left head start.head batches here.messages start.number start.end here.torn store.is_head store.fit store.short here.recovered in (
        last_is text head batches zone updates (recent_of state.writer) k at.end,
        found.1,
        synced_taken text left head batches zone updates start store here,
      )

  pub tended_started : (text : List ℕ) (batches : List (List Messages)) (zone : List Record) (updates : List Update) (k : ℕ) (before after : CompactedState F) (start later : Recovery)
      → IsAt text batches zone updates k before → (from : StandsFrom written synced zone updates after.writer after.wanted)
      → IsStarted text (journal_of (head_of before.writer) batches) start → IsStarted from.text (journal_of (head_of after.writer) from.batches) later
      → (start.newest.last.zone ≡ later.newest.last.zone) × (start.newest.last.number ≡ from.n + later.newest.last.number)
  tended_started text batches zone updates k before after start later at from is is_later =
      compaction_started text from.text (head_of before.writer) (head_of after.writer) batches from.batches zone updates from.n start later at.end.store from.within
      from.is_present.end.store is is_later

  pub kept_recovered : (zone : List Record) (store : CompactedState F) (published : List Version) (updates : List Messages) (left : List ℕ) (start : Recovery)
      → (has : HasUpdates zone store published updates) → IsStarted has.text (synced (disk_of (log_of store.writer)) ++ left) start
      → (all : List Update) × (more : List Update) × AreRead updates all × EachChanges zone (all ++ more) × (start.newest.last.zone ≡ replay zone (all ++ more))
  kept_recovered zone store published updates left start has is =
      let crash = (crash_has_last has.text has.batches (replay zone has.in_text) has.in_journal has.k store left start has.is_present is).2 in
      has_recovered zone store published updates start.newest.last.zone has (crash.0, crash.1, crash.2)
