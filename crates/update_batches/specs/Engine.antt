-- Versions made one from another (RFC 2136, 3).
use Rattle.std.specs.Prelude.{◌≡◌, List, [], ◌∷◌, ◌++◌}
use Rattle.zone_tree.specs.Version.{Version}
use Rattle.update_batches.specs.declared.update_request.UpdateRequest.{UpdateRequest}
use Rattle.update_batches.specs.UpdateRequest.{makes}

-- it is the last of these
abbrev pub IsLast : {V : Type 0} → List V → V → Type 0
IsLast {V} versions version = (front : List V) × (versions ≡ front ++ version ∷ [])

-- each of these is made by some update from the one before it, and the first from this one
abbrev pub AreMade : Version → List Version → Type 0
AreMade first [] = Unit {0}
AreMade first (next ∷ versions) = ((asked : UpdateRequest) × makes first asked next) × AreMade next versions
