-- A table of free slots, one after the other.
use Rattle.std.proofs.Common.{◌≡◌, ap, ◌∙◌, ℕ, ◌+◌, ◌-◌, ◌≤◌, List, [], ◌∷◌, ◌++◌, replicate, arith}
use Rattle.std.proofs.lemmas.List.{replicate_more}
use Rattle.cell_core.specs.Words.{free_slot}
use Rattle.cell_core.specs.declared.words.Slot.{Slot}

-- one free slot more
pub one_more_free : {T : Type 0} (first : Slot T) (items : List (Slot T)) (i : ℕ) → 1 ≤ i → items ≡ first ∷ replicate (i - 1) free_slot → items ++ free_slot ∷ [] ≡ first ∷ replicate (i + 1 - 1) free_slot
one_more_free {T} first items i l e =
    let next : i - 1 + 1 ≡ i + 1 - 1 = omega arith in
    ap (λ xs. xs ++ free_slot {T = T} ∷ []) e ∙ ap (λ xs. first ∷ xs) (replicate_more (i - 1) (free_slot {T = T}) ∙ ap (λ n. replicate n (free_slot {T = T})) next)

-- the table of so many slots
pub all_free : {T : Type 0} (first : Slot T) (items : List (Slot T)) (i : ℕ) → i ≡ 64 → items ≡ first ∷ replicate (i - 1) free_slot → items ≡ first ∷ replicate 63 free_slot
all_free {T} first items i is e = e ∙ ap (λ n. first ∷ replicate (n - 1) (free_slot {T = T})) is
