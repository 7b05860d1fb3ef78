-- What is written of a name, and what is entered of it, by whether the table has it.
use Rattle.std.proofs.Common.{◌≡◌, ℕ, ◌+◌, List, [], ◌∷◌, ◌++◌, length, Option, Some, None, ap}
use Rattle.wire_names.specs.Table.{Table, position_in}
use Rattle.wire_names.specs.Written.{name_octets, new_entries, pointer_to}

pub octets_none : (table : Table) (label : List ℕ) (name : List (List ℕ)) → position_in table (label ∷ name) ≡ None → name_octets table (label ∷ name) ≡ length label ∷ label ++ name_octets table name
octets_none table label name e = ap (λ (o : Option ℕ). elim o [ Some target ↦ pointer_to target | None ↦ length label ∷ label ++ name_octets table name ]) e

pub octets_some : (table : Table) (label : List ℕ) (name : List (List ℕ)) (target : ℕ) → position_in table (label ∷ name) ≡ Some target → name_octets table (label ∷ name) ≡ pointer_to target
octets_some table label name target e = ap (λ (o : Option ℕ). elim o [ Some at ↦ pointer_to at | None ↦ length label ∷ label ++ name_octets table name ]) e

pub entries_none : (table : Table) (at : ℕ) (label : List ℕ) (name : List (List ℕ)) → position_in table (label ∷ name) ≡ None → new_entries table at (label ∷ name) ≡ (at, label ∷ name) ∷ new_entries table (at + 1 + length label) name
entries_none table at label name e = ap (λ (o : Option ℕ). elim o [ Some target ↦ [] | None ↦ (at, label ∷ name) ∷ new_entries table (at + 1 + length label) name ]) e

pub entries_some : (table : Table) (at : ℕ) (label : List ℕ) (name : List (List ℕ)) (target : ℕ) → position_in table (label ∷ name) ≡ Some target → new_entries table at (label ∷ name) ≡ []
entries_some table at label name target e = ap (λ (o : Option ℕ). elim o [ Some x ↦ [] | None ↦ (at, label ∷ name) ∷ new_entries table (at + 1 + length label) name ]) e
