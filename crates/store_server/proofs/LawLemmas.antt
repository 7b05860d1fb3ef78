-- Laws of updates from end to end.
use Rattle.std.proofs.Common.{◌≡◌, ℕ, List, [], ◌∷◌, ◌++◌, None, refl, sym, ap, subst}
use Rattle.std.specs.declared.io.Error.{Error as IoError}
use Rattle.dns_rdata.specs.Record.{Record}
use Rattle.dns_message.specs.declared.update.Update.{Update}
use Rattle.zone_tree.specs.Version.{Version}
use Rattle.update_core.specs.Act.{replay}
use Rattle.dns_engine.specs.Replayed.{EachChanges}
use Rattle.journal.specs.Batch.{Messages}
use Rattle.journal.specs.Recovered.{updates_in}
use Rattle.journal.specs.Log.{disk_of}
use Rattle.store_files.specs.declared.file.FileDisk.{FileDisk}
use Rattle.store_files.specs.File.{synced}
use Rattle.update_batches.specs.Engine.{IsLast}
use Rattle.update_batches.specs.Batch.{newest_of}
use Rattle.update_batches.specs.Turned.{ThreadState, HasServed}
use Rattle.store_recovery.specs.declared.start.Recovery.{Recovery}
use Rattle.store_recovery.specs.Replay.{AreRead}
use Rattle.store_recovery.specs.Start.{IsStarted}
use Rattle.store_compaction.specs.declared.writer.StoreWriter.{StoreWriter}
use Rattle.store_compaction.specs.RecentUpdates.{last_in}
use Rattle.store_compaction.specs.Writer.{log_of, recent_of}
use Rattle.store_compaction.proofs.JudgedLemmas.{last_more}
use Rattle.store_compaction.specs.Kept.{CompactedState}
use Rattle.store_compaction.specs.Crash.{Leaves}
use Rattle.store_compaction.specs.Has.{HasUpdates}
use Rattle.store_compaction.proofs.HasLemmas.{has_begun}
use Rattle.store_compaction.proofs.LawLemmas.{kept_recovered}
use Rattle.store_server.specs.declared.served.LoggedStore.{LoggedStore}
use Rattle.store_server.specs.declared.served.ServerStore.{ServerStore}
use Rattle.store_server.specs.declared.served.ServerStore.TheVariants.{Store}
use Rattle.store_server.specs.OpenStore.{WritesOn}
use Rattle.store_server.specs.Served.{HasIn, LeavesIn}

pub resumed_has : (first : Version) (later : List Version) (writer : StoreWriter FileDisk IoError) → (writes : WritesOn first later writer)
    → HasUpdates writes.zone (record { writer = writer; wanted = None }) (first ∷ later) (updates_in writes.batches)
resumed_has first later writer writes =
    has_begun writes.text writes.batches writes.zone writes.updates writes.k (record { writer = writer; wanted = None }) (first ∷ later) writes.is_present
    (subst (λ (v : Version). IsLast (first ∷ later) v) (sym writes.last) (last_more (first ∷ []) first later ([], refl)))

module _ {L : Type 0} where
  pub served_recovered : (zone : List Record) (old new : ThreadState (ServerStore (CompactedState IoError) L)) (stood : List Messages)
      (kept : LoggedStore (CompactedState IoError) L)
      → (served : HasServed (HasIn HasUpdates) (LeavesIn Leaves) old new)
      → HasIn HasUpdates zone old.store old.published stood → new.store ≡ Store kept
      → (has : HasUpdates zone kept.store new.published (stood ++ served.updates)) × ((left : List ℕ) (start : Recovery)
      → IsStarted has.text (synced (disk_of (log_of kept.store.writer)) ++ left) start
      → (all : List Update) × (more : List Update) × AreRead (stood ++ served.updates) all × EachChanges zone (all ++ more) × (start.newest.last.zone ≡ replay zone (all ++ more)))
  served_recovered zone old new stood kept served had is =
      let has : HasUpdates zone kept.store new.published (stood ++ served.updates) =
      subst (λ (s : ServerStore (CompactedState IoError) L). HasIn HasUpdates zone s new.published (stood ++ served.updates)) is (served.stored zone stood had) in
      (has, λ left start started. kept_recovered zone kept.store new.published (stood ++ served.updates) left start has started)
