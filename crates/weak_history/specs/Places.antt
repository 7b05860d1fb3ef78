-- What is in places (own).
use Rattle.std.specs.Prelude.{List, [], ◌∷◌, Option, None, Some}

-- what is in places
abbrev pub placed : {T : Type 0} → List (Option T) → List T
placed [] = []
placed (None ∷ places) = placed places
placed (Some it ∷ places) = it ∷ placed places

-- each place has something in it
abbrev pub IsFull : {T : Type 0} → List (Option T) → Type 0
IsFull [] = Unit {0}
IsFull (None ∷ places) = ⊥
IsFull (Some it ∷ places) = IsFull places
