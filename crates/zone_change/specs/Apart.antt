-- A walk over two zones side by side, which finds the owners where they differ.
use Rattle.std.specs.Prelude.{List, ◌∷◌, Option, None, Some}
use Rattle.dns_rdata.specs.Record.{Record}
use Rattle.zone_tree.specs.Sets.{records_in}

-- the sets that a walk has left after one that was taken from it
abbrev pub sets_left : Option (List Record) → List (List Record) → List (List Record)
sets_left None sets = sets
sets_left (Some set) sets = set ∷ sets

-- and their records
abbrev pub records_left : Option (List Record) → List (List Record) → List Record
records_left set sets = records_in (sets_left set sets)
