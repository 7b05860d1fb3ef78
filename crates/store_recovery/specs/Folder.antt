-- What a store's directory means (own).
use Rattle.std.specs.Prelude.{◌≡◌, ◌==◌, ℕ, List, Option, None, Some, if◌then◌else◌}
use Rattle.dns_rdata.specs.Record.{Record}
use Rattle.dns_message.specs.declared.update.Update.{Update}
use Rattle.journal.specs.Batch.{Messages}
use Rattle.journal.specs.declared.heads.Head.{Head}
use Rattle.journal.specs.Recovered.{BeginsHead, journal_of}
use Rattle.store_recovery.specs.Store.{IsStore}

-- a directory's files: its journal, and its zone texts by their numbers
pub record Folder : Type 0 where
  pub journal : Option (List ℕ)
  pub texts : ℕ → Option (List ℕ)

-- a directory means a store: its journal has this head and these batches, and it has the zone text that the head names; its other files mean nothing
pub record Means (folder : Folder) (head : Head) (batches : List (List Messages)) (zone : List Record) (updates : List Update) : Type 0 where
  pub text : List ℕ
  pub journal : folder.journal ≡ Some (journal_of head batches)
  pub there : folder.texts head.number ≡ Some text
  pub store : IsStore text head batches zone updates

-- what a start reads from a directory: the octets of its journal, and the zone text that the journal's head names
pub record HasPair (folder : Folder) (octets text : List ℕ) : Type 0 where
  pub head : Head
  pub behind : List ℕ
  pub journal : folder.journal ≡ Some octets
  pub begins : BeginsHead octets head behind
  pub there : folder.texts head.number ≡ Some text

-- a directory with a zone text of this number, without it, and with this journal
abbrev pub with_text : Folder → ℕ → List ℕ → Folder
with_text folder number text = record folder { texts = λ n. if n == number then Some text else folder.texts n }

abbrev pub without_text : Folder → ℕ → Folder
without_text folder number = record folder { texts = λ n. if n == number then None else folder.texts n }

abbrev pub with_journal : Folder → List ℕ → Folder
with_journal folder octets = record folder { journal = Some octets }
