-- The data kept for the next journal while its zone text is written (own).
use Rattle.std.specs.Prelude.{◌≡◌, ℕ, List, map, length}
use Rattle.journal.specs.declared.heads.Head.{Head}
use Rattle.journal.specs.Batch.{Messages, batch_of}
use Rattle.journal.specs.Frame.{Fit}
use Rattle.journal.specs.Head.{salt_of}
use Rattle.journal.specs.Log.{octets_of}
use Rattle.store_recovery.specs.Behind.{AreBehind}
use Rattle.store_compaction.specs.declared.marked.Compaction.{Compaction}
use Rattle.store_compaction.specs.declared.next.NextJournal.{NextJournal}

-- the bodies of the batches after the version that is compacted
abbrev pub bodies_of : Compaction → List (List ℕ)
bodies_of compaction = map (λ body. body.octets.items) compaction.bodies.items

-- the number of the compaction's zone text
abbrev pub number_of : Compaction → ℕ
number_of compaction = compaction.number

-- a compaction has the batches with the updates after the first k of a store's
pub record IsMarked (k : ℕ) (batches : List (List Messages)) (compaction : Compaction) : Type 0 where
  pub rest : List (List Messages)
  pub behind : AreBehind k batches rest
  pub bodies : bodies_of compaction ≡ map batch_of rest

-- a journal that replaces another has this head and these bodies
pub record IsNextJournal (head : Head) (bodies : List (List ℕ)) (next : NextJournal) : Type 0 where
  pub octets : next.octets.items ≡ octets_of head bodies
  pub salt : next.salt ≡ salt_of head
  pub number : next.number ≡ length bodies
  pub fit : Fit 0 bodies
