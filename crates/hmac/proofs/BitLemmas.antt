use Rattle.std.proofs.Common.{◌≡◌, ◌↔◌, ℕ, ◌+◌, ◌<◌, List, [], ◌∷◌, ◌++◌, length, take, drop, slice_index, arith, refl, sym, ap, ◌∙◌, bit_or, bit_xor}
use Rattle.std.proofs.lemmas.List.{take_more, length-take}
use Rattle.std.proofs.lemmas.Nat.{le_or_l, le_or_r}
use lib.Bits.{xor_assoc, xor_self, xor_zero_r, xor_zero_l, or_zero_l}

-- of two numbers whose or is 0, both are
pub or_none : (a b : ℕ) → bit_or a b ≡ 0 → (a ≡ 0) × (b ≡ 0)
or_none a b p = (omega (arith, le_or_l a b, p), omega (arith, le_or_r a b, p))

-- and the other way round
pub or_of_none : (a b : ℕ) → a ≡ 0 → b ≡ 0 → bit_or a b ≡ 0
or_of_none a b p q = ap (λ x. bit_or x b) p ∙ or_zero_l b ∙ q

-- numbers whose exclusive or is 0 are the same
pub xor_none : (a b : ℕ) → bit_xor a b ≡ 0 → a ≡ b
xor_none a b p = sym (xor_zero_r a) ∙ ap (bit_xor a) (sym (xor_self b)) ∙ sym (xor_assoc a b b) ∙ ap (λ x. bit_xor x b) p ∙ xor_zero_l b

-- and the other way round
pub xor_same : (a b : ℕ) → a ≡ b → bit_xor a b ≡ 0
xor_same a b p = ap (λ x. bit_xor x b) p ∙ xor_self b

-- the first of what is added, of lists of which the fronts are as long
last_same : (a b : List ℕ) (x y : ℕ) → length a ≡ length b → a ++ x ∷ [] ≡ b ++ y ∷ [] → (a ≡ b) × (x ≡ y)
last_same [] [] x y len is = (refl, ap (λ l. slice_index l 0) is)
last_same [] (b ∷ other) x y len is = absurd (omega (arith, len))
last_same (a ∷ front) [] x y len is = absurd (omega (arith, len))
last_same (a ∷ front) (b ∷ other) x y len is =
    let more = last_same front other x y (omega (arith, len)) (ap (drop 1) is) in
    (ap (λ n. n ∷ front) (ap (λ l. slice_index l 0) is) ∙ ap (λ l. b ∷ l) more.0, more.1)

-- what differs so far, with one octet more of each
pub next_same : (a b : List ℕ) (i differ : ℕ) → i < length a → i < length b → ((differ ≡ 0) ↔ (take i a ≡ take i b))
    → (bit_or differ (bit_xor (slice_index a i) (slice_index b i)) ≡ 0) ↔ (take (i + 1) a ≡ take (i + 1) b)
next_same a b i differ in_a in_b so = (
  (λ p.
      let both = or_none differ (bit_xor (slice_index a i) (slice_index b i)) p in
      take_more a i 0 in_a ∙ ap (λ (l : List ℕ). l ++ slice_index a i ∷ []) (so.0 both.0) ∙ ap (λ (x : ℕ). take i b ++ x ∷ []) (xor_none _ _ both.1) ∙ sym (take_more b i 0 in_b)),
  (λ p.
      let both = last_same (take i a) (take i b) (slice_index a i) (slice_index b i) (length-take i a ∙ omega arith ∙ sym (length-take i b)) (sym (take_more a i 0 in_a) ∙ p ∙ take_more b i 0 in_b) in
      or_of_none differ (bit_xor (slice_index a i) (slice_index b i)) (so.1 both.0) (xor_same _ _ both.1)),
)
