-- What a row owns: values side by side in one block, with an end of which places are cut off.
use Rattle.core.specs.Prelude.{ℕ, ◌*◌, ◌^◌, ◌<◌, ◌≤◌, List, length}
use base.Fml.{Fml, ftrue, fsep, fex}
use types.SemTy.{cells}
use denote.RattleType.{RattleType}
use denote.Memory.{mem}
use denote.RawPtr.{Ptr, InBlock, block_of, count_of, ◌+ₚ◌}

-- the values xs of R from p on, of n for which there was room
abbrev pub row_owns : (R : RattleType) → Ptr → ℕ → List R.Denot → Fml
row_owns R p n xs = fsep (fex (InBlock p × (length xs ≤ n) × (n * (mem R).size < 2 ^ 63)) (λ _. ftrue)) (cells (mem R) xs (block_of p) (count_of p))

-- one R further
abbrev pub next_to : RattleType → Ptr → Ptr
next_to R p = p +ₚ (mem R).size
