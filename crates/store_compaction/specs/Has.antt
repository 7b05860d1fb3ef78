-- The updates that a store has, in its zone text and in its journal (RFC 2136, 3.5; own).
use Rattle.journal.specs.Batch.{Messages}
use Rattle.std.specs.Prelude.{ℕ, List, ◌++◌}
use Rattle.dns_rdata.specs.Record.{Record}
use Rattle.dns_message.specs.declared.update.Update.{Update}
use Rattle.zone_tree.specs.Version.{Version}
use Rattle.update_core.specs.Act.{replay}
use Rattle.dns_engine.specs.Replayed.{EachChanges}
use Rattle.update_batches.specs.Engine.{IsLast}
use Rattle.store_recovery.specs.Replay.{AreRead}
use Rattle.store_compaction.specs.RecentUpdates.{last_in}
use Rattle.store_compaction.specs.Writer.{recent_of}
use Rattle.store_compaction.specs.Kept.{CompactedState, IsAt}

-- a store has these updates after a zone, the first of them in its zone text and the others in its journal on disk. Each changes the zone that the previous ones leave, and the
-- store ends at the version published last
pub record HasUpdates {F : Type 0} (zone : List Record) (store : CompactedState F) (published : List Version) (updates : List Messages) : Type 0 where
  pub in_text : List Update
  pub in_journal : List Update
  pub are_read : AreRead updates (in_text ++ in_journal)
  pub each : EachChanges zone (in_text ++ in_journal)
  pub text : List ℕ
  pub batches : List (List Messages)
  pub k : ℕ
  pub is_present : IsAt text batches (replay zone in_text) in_journal k store
  pub last : IsLast published (last_in (recent_of store.writer))
