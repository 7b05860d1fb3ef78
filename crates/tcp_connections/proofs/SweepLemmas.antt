-- Connections that are looked at one key behind the other.
use Rattle.std.proofs.Common.{◌≡◌, ◌≢◌, ℕ, ◌+◌, ◌<◌, ◌≤◌, Option, None, Some, option_map, sym, ◌∙◌, ap, subst, arith, inl, inr, ◌⊎◌}
use Rattle.std.proofs.lemmas.Bool.{cases_eq, cases_lt}
use Rattle.tcp_connections.specs.Deadlines.{IsLeast, IsLeastBelow}

-- whether a key is below another, or is it, or not
below_or : (k i : ℕ) → (k < i) ⊎ (i ≤ k)
below_or k i = cases_lt k i

module _ {L : Type 0} (f : Option L → Option L) (old before after : ℕ → Option L) (i : ℕ) where
  -- one key more is looked at
  pub below_more : ((k : ℕ) → k < i → before k ≡ f (old k)) → ((k : ℕ) → i ≤ k → before k ≡ old k) → after i ≡ f (before i) → ((o : ℕ) → o ≢ i → after o ≡ before o) → (k : ℕ) → k < i + 1 → after k ≡ f (old k)
  below_more below above own others = λ k within. elim (cases_eq k i) [
    | inl same ↦ subst (λ (j : ℕ). after j ≡ f (old j)) (sym same) (own ∙ ap f (above i (omega arith)))
    | inr differs ↦ others k differs ∙ below k (omega (arith, within, differs))
  ]

  pub above_more : ((k : ℕ) → i ≤ k → before k ≡ old k) → ((o : ℕ) → o ≢ i → after o ≡ before o) → (k : ℕ) → i + 1 ≤ k → after k ≡ old k
  above_more above others = λ k over.
      let differs : k ≢ i = omega (arith, over) in
      others k differs ∙ above k (omega (arith, over))

module _ (numbers : ℕ → Option ℕ) (i : ℕ) where
  -- a key that has no number
  pub least_none : (least : Option (ℕ × ℕ)) → IsLeastBelow numbers i least → numbers i ≡ None → IsLeastBelow numbers (i + 1) least
  least_none None below none = λ k within. elim (cases_eq k i) [
    | inl same ↦ subst (λ (j : ℕ). numbers j ≡ None) (sym same) none
    | inr differs ↦ below k (omega (arith, within, differs))
  ]
  least_none (Some least) below none = (
    below.0,
    λ k number within is. elim (cases_eq k i) [
      | inl same ↦ absurd (no_number number (sym (subst (λ (j : ℕ). numbers j ≡ Some number) same is) ∙ none))
      | inr differs ↦ below.1 k number (omega (arith, within, differs)) is
    ],
  )
    where
      no_number : (number : ℕ) → Some number ≡ None → ⊥
      no_number number is = cc

  -- a key whose number isn't less
  pub least_kept : (least : ℕ × ℕ) (number : ℕ) → IsLeastBelow numbers i (Some least) → numbers i ≡ Some number → least.1 ≤ number → IsLeastBelow numbers (i + 1) (Some least)
  least_kept least number below has fits = (
    below.0,
    λ k other within is. elim (cases_eq k i) [
      | inl same ↦ least_of number other (sym has ∙ subst (λ (j : ℕ). numbers j ≡ Some other) same is) fits
      | inr differs ↦ below.1 k other (omega (arith, within, differs)) is
    ],
  )
    where
      least_of : (n other : ℕ) → Some n ≡ Some other → least.1 ≤ n → least.1 ≤ other
      least_of n other same fits = let is : n ≡ other = cc in subst (λ (m : ℕ). least.1 ≤ m) is fits

  -- a key whose number is the first, or less
  pub least_first : (number : ℕ) → IsLeastBelow numbers i None → numbers i ≡ Some number → IsLeastBelow numbers (i + 1) (Some (i, number))
  least_first number below has = (
    has,
    λ k other within is. elim (cases_eq k i) [
      | inl same ↦ equal_le number other (sym has ∙ subst (λ (j : ℕ). numbers j ≡ Some other) same is)
      | inr differs ↦ absurd (no_number other (sym is ∙ below k (omega (arith, within, differs))))
    ],
  )
    where
      equal_le : (n other : ℕ) → Some n ≡ Some other → n ≤ other
      equal_le n other same = let is : n ≡ other = cc in omega (arith, is)

      no_number : (other : ℕ) → Some other ≡ None → ⊥
      no_number other is = cc

  pub least_less : (least : ℕ × ℕ) (number : ℕ) → IsLeastBelow numbers i (Some least) → numbers i ≡ Some number → number ≤ least.1 → IsLeastBelow numbers (i + 1) (Some (i, number))
  least_less least number below has fits = (
    has,
    λ k other within is. elim (cases_eq k i) [
      | inl same ↦ equal_le number other (sym has ∙ subst (λ (j : ℕ). numbers j ≡ Some other) same is)
      | inr differs ↦ let more : least.1 ≤ other = below.1 k other (omega (arith, within, differs)) is in omega (arith, more, fits)
    ],
  )
    where
      equal_le : (n other : ℕ) → Some n ≡ Some other → n ≤ other
      equal_le n other same = let is : n ≡ other = cc in omega (arith, is)

-- no key beyond an end has a number
pub least_all : (numbers : ℕ → Option ℕ) (end : ℕ) (least : Option (ℕ × ℕ)) → IsLeastBelow numbers end least → ((key : ℕ) → end ≤ key → numbers key ≡ None) → IsLeast numbers (option_map (λ l. l.0) least)
least_all numbers end None below beyond = λ k. elim (below_or k end) [ inl within ↦ below k within | inr over ↦ beyond k over ]
least_all numbers end (Some least) below beyond = (
  least.1,
  below.0,
  λ k number is. elim (below_or k end) [
    | inl within ↦ below.1 k number within is
    | inr over ↦ absurd (no_number number (sym is ∙ beyond k over))
  ],
)
  where
    no_number : (number : ℕ) → Some number ≡ None → ⊥
    no_number number is = cc

-- the key of the least of those up to an end, beyond which no key has a number
pub least_at : (numbers : ℕ → Option ℕ) (end : ℕ) (least : Option (ℕ × ℕ)) (key : ℕ) → IsLeastBelow numbers end least → ((k : ℕ) → end ≤ k → numbers k ≡ None) → option_map (λ (l : ℕ × ℕ). l.0) least ≡ Some key → IsLeast numbers (Some key)
least_at numbers end least key below beyond is = subst (λ (o : Option ℕ). IsLeast numbers o) is (least_all numbers end least below beyond)

-- none of those up to an end has a number, and no key beyond it has
pub none_at : (numbers : ℕ → Option ℕ) (end : ℕ) (least : Option (ℕ × ℕ)) → IsLeastBelow numbers end least → ((k : ℕ) → end ≤ k → numbers k ≡ None) → option_map (λ (l : ℕ × ℕ). l.0) least ≡ None → IsLeast numbers None
none_at numbers end least below beyond is = subst (λ (o : Option ℕ). IsLeast numbers o) is (least_all numbers end least below beyond)
