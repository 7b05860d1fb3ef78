-- Zone texts that are written while updates continue (own).
use Rattle.std.specs.Prelude.{ℕ, List}
use Rattle.journal.specs.declared.heads.Head.{Head}
use Rattle.journal.specs.declared.heads.TextSum.{TextSum}
use Rattle.store_compaction.specs.declared.next.NextText.{NextText}
use Rattle.store_compaction.specs.Files.{BeginsText}

-- a requested text, and the sum of the text from which the store was created
pub record Wanted : Type 0 where
  pub next : NextText
  pub origin : TextSum

-- the request for a text, for a store with this head
abbrev pub wanted_of : NextText → Head → Wanted
wanted_of next before = record { next = next; origin = before.origin }

-- a head is that of the requested text, with random bytes
abbrev pub IsWritten : Wanted → Head → Type 0
IsWritten wanted head = (random : List ℕ) × BeginsText wanted.next.version.zone wanted.next.number random wanted.origin head
