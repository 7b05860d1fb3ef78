-- What has been published (own).
use Rattle.std.specs.Prelude.{List, [], ◌∷◌}
use Rattle.cell_core.specs.Cell.{EachFollows}

-- values that may have been published, the first one first: it may begin, and each follows the one before it (own)
abbrev pub IsHistory : {T : Type 0} → (T → Type 0) → (T → T → Type 0) → List T → Type 0
IsHistory begins follows [] = ⊥
IsHistory begins follows (first ∷ more) = begins first × EachFollows follows (first ∷ more)
