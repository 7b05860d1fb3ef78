-- The writer of a store (own).
use Rattle.std.specs.Prelude.{◌≡◌, ◌≢◌, ℕ, ◌+◌, List, [], ◌∷◌, map, Option, None, Some, ⊤}
use Rattle.zone_tree.specs.Version.{Version}
use Rattle.journal.specs.declared.heads.Head.{Head}
use Rattle.journal.specs.Batch.{Messages, batch_of}
use Rattle.journal.specs.declared.log.Log.{Log}
use Rattle.update_batches.specs.Batch.{logged}
use Rattle.store_compaction.specs.declared.marked.Compaction.{Compaction}
use Rattle.store_compaction.specs.declared.next.NextJournal.{NextJournal}
use Rattle.store_compaction.specs.declared.next.NextText.{NextText}
use Rattle.update_batches.specs.declared.version_update.VersionUpdate.{VersionUpdate}
use Rattle.store_compaction.specs.declared.writer.StoreWriter.{StoreWriter}
use Rattle.store_compaction.specs.RecentUpdates.{RecentState}
use Rattle.update_batches.specs.Batch.{versions_in, updates_of}
use Rattle.store_compaction.specs.Marked.{bodies_of, number_of, IsNextJournal}

module _ {D F : Type 0} where
  -- a writer's log, its recent updates, the head of its journal, the current compaction, and the greatest number given to a zone text so far
  abbrev pub log_of : StoreWriter D F → Log D F
  log_of writer = writer.log

  abbrev pub recent_of : StoreWriter D F → RecentState
  recent_of writer = writer.recent

  abbrev pub head_of : StoreWriter D F → Head
  head_of writer = writer.texts.head

  abbrev pub under_way_of : StoreWriter D F → Option Compaction
  under_way_of writer = writer.under_way

  abbrev pub last_of : StoreWriter D F → ℕ
  last_of writer = writer.texts.last

-- steps have these versions and these updates, one each
pub record AreSteps (steps : List VersionUpdate) (versions : List Version) (updates : List Messages) : Type 0 where
  pub versions_are : versions_in steps ≡ versions
  pub updates_are : updates_of steps ≡ updates

-- the compaction that was under way has the batch of these updates after those that it had, or is given up
abbrev pub Adds : Option Compaction → Option Compaction → List Messages → Type 0
Adds before None updates = ⊤
Adds None (Some now) updates = ⊥
Adds (Some before) (Some now) updates = (number_of now ≡ number_of before) × (bodies_of now ≡ logged (bodies_of before) updates)

-- a compaction is under way for the text with a number, and has the recent updates, each as a batch of its own
abbrev pub Keeps : RecentState → ℕ → Option Compaction → Type 0
Keeps recent number None = ⊥
Keeps recent number (Some compaction) = (number_of compaction ≡ number) × (bodies_of compaction ≡ map (λ messages. batch_of (messages ∷ [])) (updates_of recent.steps))

-- a compaction is started: its text is that of the oldest recent version, with the number after the greatest given so far
pub record Begins (recent : RecentState) (last : ℕ) (next : NextText) (now : Option Compaction) : Type 0 where
  pub version : next.version ≡ recent.oldest
  pub number : next.number ≡ last + 1
  pub kept : Keeps recent next.number now

-- no compaction is under way for the text with a number
abbrev pub IsOver : Option Compaction → ℕ → Type 0
IsOver None number = ⊤
IsOver (Some compaction) number = number_of compaction ≢ number

-- a journal with this head is that of the current compaction, for the text with the head's number
pub record IsNextOf (under_way : Option Compaction) (head : Head) (next : NextJournal) : Type 0 where
  pub compaction : Compaction
  pub is_under_way : under_way ≡ Some compaction
  pub number : number_of compaction ≡ head.number
  pub journal : IsNextJournal head (bodies_of compaction) next
