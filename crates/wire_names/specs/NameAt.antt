-- The name at a place of a message, or its fault, as a function that computes.
use Rattle.std.specs.Prelude.{ℕ, zero, suc, ◌+◌, true, false, List, [], ◌∷◌, nat_lt, Result, Ok, Err}
use Rattle.dns_name.specs.Name.{Name}
use Rattle.wire_names.specs.Parts.{part_at, label_at}
use Rattle.wire_names.specs.declared.part.NameReadFault.{NameReadFault}
use Rattle.wire_names.specs.declared.part.NameReadFault.TheVariants.{Short, BadPointer, TooLong}
use Rattle.wire_names.specs.declared.part.Part.TheVariants.{Closing, Label, Pointer}

-- what is read after a label, with the label in front
abbrev pub with_label : List ℕ → Result (Name × ℕ) NameReadFault → Result (Name × ℕ) NameReadFault
with_label l (Ok r) = Ok (l ∷ r.0, r.1)
with_label l (Err fault) = Err fault

-- what is read at a pointer's target, where reading goes on after the pointer
abbrev pub through_pointer : ℕ → Result (Name × ℕ) NameReadFault → Result (Name × ℕ) NameReadFault
through_pointer next (Ok r) = Ok (r.0, next)
through_pointer next (Err fault) = Err fault

-- in a run that began at `run`, after labels of `used` octets: the name that the octets at `at` spell, and the
-- place where reading goes on, or the first fault, in at most so many steps (RFC 1035, 4.1.4)
unfoldable pub name_from : ℕ → List ℕ → ℕ → ℕ → ℕ → Result (Name × ℕ) NameReadFault
name_from zero msg run at used = Err Short
name_from (suc steps) msg run at used =
    elim (part_at msg at) [
      | Err fault ↦ Err fault
      | Ok part ↦ elim part [
        | Closing ↦ Ok ([], at + 1)
        | Label n ↦ elim (nat_lt 255 (used + (n + 2))) [
          | true ↦ Err TooLong
          | false ↦ with_label (label_at msg at n) (name_from steps msg run (at + 1 + n) (used + (n + 1)))
        ]
        | Pointer target ↦ elim (nat_lt target run) [
          | true ↦ through_pointer (at + 2) (name_from steps msg target target used)
          | false ↦ Err BadPointer
        ]
      ]
    ]

-- the name at a position of a message and the place where reading goes on, or the first fault (RFC 1035, 4.1.4):
-- each label takes of the name's 255 octets, and each pointer goes down, so the steps are enough
unfoldable pub name_at : List ℕ → ℕ → Result (Name × ℕ) NameReadFault
name_at msg at = name_from (at + 256) msg at at 0
