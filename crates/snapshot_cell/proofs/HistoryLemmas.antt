-- A history goes on with what may follow its last value.
use Rattle.std.proofs.Common.{◌≡◌, ap, sym, subst, ℕ, zero, suc, ◌+◌, List, [], ◌∷◌, ◌++◌, length, Option, Some, None, arith}
use Rattle.std.specs.List.{slice_get}
use Rattle.std.proofs.lemmas.List.{append_assoc}
use Rattle.cell_core.proofs.LawLemmas.{each_one_more}
use Rattle.counted_handles.specs.History.{IsHistory}

abbrev got_or : {X : Type 0} → X → Option X → X
got_or x None = x
got_or x (Some y) = y

-- a list by its last value
pub ends_with : {X : Type 0} (xs : List X) (n : ℕ) (x : X) → length xs ≡ n + 1 → slice_get xs n ≡ Some x → (before : List X) × (xs ≡ before ++ x ∷ [])
ends_with [] n x size got = absurd (omega (arith, size))
ends_with (y ∷ []) zero x size got = ([], ap (λ z. z ∷ []) (ap (got_or y) got))
ends_with (y ∷ []) (suc n) x size got = absurd (omega (arith, size))
ends_with (y ∷ z ∷ zs) zero x size got = absurd (omega (arith, size))
ends_with (y ∷ z ∷ zs) (suc n) x size got =
    let rest = ends_with (z ∷ zs) n x (omega (arith, size)) got in
    (y ∷ rest.0, ap (λ l. y ∷ l) rest.1)

module _ {T : Type 0} (begins : T → Type 0) (follows : T → T → Type 0) where
  goes_on : (before : List T) (last value : T) → IsHistory begins follows (before ++ last ∷ []) → follows last value → IsHistory begins follows (before ++ last ∷ value ∷ [])
  goes_on [] last value history may = (history.0, each_one_more follows [] last value history.1 may)
  goes_on (first ∷ more) last value history may = (history.0, each_one_more follows (first ∷ more) last value history.1 may)

  pub history_next : (published : List T) (n : ℕ) (last value : T) → IsHistory begins follows published → length published ≡ n + 1 → slice_get published n ≡ Some last → follows last value → IsHistory begins follows (published ++ value ∷ [])
  history_next published n last value history size got may =
      let ends = ends_with published n last size got in
      let longer = goes_on ends.0 last value (subst (IsHistory begins follows) ends.1 history) may in
      subst (λ l. IsHistory begins follows (l ++ value ∷ [])) (sym ends.1) (subst (IsHistory begins follows) (sym (append_assoc ends.0 (last ∷ []) (value ∷ []))) longer)
