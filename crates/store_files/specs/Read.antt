-- The zone text that a journal names, as it was found (own).
use Rattle.std.specs.Prelude.{⊤, ℕ, List}
use Rattle.store_files.specs.Names.{Names}
use Rattle.store_files.specs.declared.read.Text.{Text}
use Rattle.store_files.specs.declared.read.Text.TheVariants.{There, Gone}

-- a text that is gone is the one of the number that the journal names
abbrev pub IsTextOf : List ℕ → Text → Type 0
IsTextOf journal (There text) = ⊤
IsTextOf journal (Gone number) = Names journal number
