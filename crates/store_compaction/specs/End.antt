-- Recent updates as the end of a store (own).
use Rattle.std.specs.Prelude.{◌≡◌, ℕ, ◌≤◌, List, length, take, drop}
use Rattle.dns_rdata.specs.Record.{Record}
use Rattle.dns_message.specs.declared.update.Update.{Update}
use Rattle.update_core.specs.Act.{replay}
use Rattle.journal.specs.Batch.{Messages}
use Rattle.journal.specs.declared.heads.Head.{Head}
use Rattle.journal.specs.Recovered.{updates_in}
use Rattle.store_recovery.specs.Store.{IsStore}
use Rattle.store_compaction.specs.RecentUpdates.{RecentState, AreRecent}
use Rattle.update_batches.specs.Batch.{updates_of}

-- recent updates are the end of a store: their oldest version has the zone after the first k of the store's updates, and their steps are made by the updates after those
pub record IsEndOf (text : List ℕ) (head : Head) (batches : List (List Messages)) (zone : List Record) (updates : List Update) (recent : RecentState) (k : ℕ) : Type 0 where
  pub store : IsStore text head batches zone updates
  pub within : k ≤ length updates
  pub oldest : recent.oldest.zone ≡ replay zone (take k updates)
  pub rest : updates_of recent.steps ≡ drop k (updates_in batches)
  pub made : AreRecent recent
