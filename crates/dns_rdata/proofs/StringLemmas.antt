-- Strings, octet after octet: how many octets are left of the string that has begun.
use Rattle.std.proofs.Common.{◌≡◌, ℕ, zero, suc, ◌+◌, ◌-◌, ◌<◌, ◌≤◌, Bool, true, false, ◌&&◌, nat_le, List, [], ◌∷◌, ◌++◌, length, drop, take, refl, sym, ap, ◌∙◌, arith}
use Rattle.std.specs.Prelude.{◌==◌, ◌↔◌, flat_map}
use Rattle.std.proofs.lemmas.Bool.Decides.{nat_tests}
use Rattle.std.proofs.lemmas.List.{length-append, take-append-drop, length-take-le, drop_all}
use Rattle.std.proofs.Math.Seq.{drop-append_seam}
use Rattle.dns_rdata.specs.Data.{are_strings_by, are_strings, counted}

-- whether strings fill the octets behind the first k
abbrev pub strings_behind : ℕ → List ℕ → Bool
strings_behind k [] = k == 0
strings_behind zero (n ∷ octets) = strings_behind n octets
strings_behind (suc k) (octet ∷ octets) = strings_behind k octets

le_suc : (m n : ℕ) → nat_le (suc m) (suc n) ≡ nat_le m n
le_suc m n = by (nat_le m n) refl
  where
    by : (b : Bool) → nat_le m n ≡ b → nat_le (suc m) (suc n) ≡ b
    by true t = let h : m ≤ n = grind (arith, nat_tests) in let k : suc m ≤ suc n = omega arith in grind (arith, nat_tests)
    by false t = let h : n < m = grind (arith, nat_tests) in let k : suc n < suc m = omega arith in grind (arith, nat_tests)

pub strings_behind-is : (octets : List ℕ) (k steps : ℕ) → length octets ≤ steps + k → strings_behind k octets ≡ (nat_le k (length octets) && are_strings_by steps (drop k octets))
strings_behind-is [] zero steps h = refl
strings_behind-is [] (suc k) steps h =
    let more : nat_le (suc k) 0 ≡ false = grind (arith, nat_tests) in
    let some : (suc k == 0) ≡ false = grind (arith, nat_tests) in
    rw (some, more) refl
strings_behind-is (n ∷ octets) zero zero h = absurd (omega arith)
strings_behind-is (n ∷ octets) zero (suc steps) h =
    let none : nat_le 0 (length (n ∷ octets)) ≡ true = grind (arith, nat_tests) in
    rw none (strings_behind-is octets n steps (omega arith))
strings_behind-is (octet ∷ octets) (suc k) steps h = rw (le_suc k (length octets)) (strings_behind-is octets k steps (omega arith))

pub are_strings-behind : (octets : List ℕ) → are_strings octets ≡ strings_behind 0 octets
are_strings-behind octets =
    let none : nat_le 0 (length octets) ≡ true = grind (arith, nat_tests) in
    let is : (nat_le 0 (length octets) && are_strings octets) ≡ are_strings octets = rw none refl in
    sym (strings_behind-is octets 0 (length octets) (omega arith) ∙ is)

-- a length octet begins a string, and each octet behind it takes one from what is left of it
pub strings_start : (k octet : ℕ) (octets : List ℕ) → k ≡ 0 → strings_behind k (octet ∷ octets) ≡ strings_behind octet octets
strings_start k octet octets e = rw e refl

pub strings_inside : (k octet : ℕ) (octets : List ℕ) → 0 < k → strings_behind k (octet ∷ octets) ≡ strings_behind (k - 1) octets
strings_inside zero octet octets h = absurd (omega arith)
strings_inside (suc k) octet octets h = let e : suc k - 1 ≡ k = omega arith in rw e refl

-- at the end no string is begun
pub strings_end : (left i : ℕ) (octets : List ℕ) → length octets ≤ i → strings_behind left (drop i octets) ≡ strings_behind 0 octets → (left == 0) ≡ are_strings octets
strings_end left i octets h e = ap (strings_behind left) (sym (drop_all i octets h)) ∙ e ∙ sym (are_strings-behind octets)

-- strings in a row, each behind its length
both : (a b : Bool) → a && b ≡ true → (a ≡ true) × (b ≡ true)
both true b e = (refl, e)
both false b e = cc

abbrev Row : List ℕ → Type 0
Row octets = (strings : List (List ℕ)) × (octets ≡ flat_map counted strings)

row_by : (steps : ℕ) (octets : List ℕ) → are_strings_by steps octets ≡ true → Row octets
row_by zero [] e = ([], refl)
row_by (suc steps) [] e = ([], refl)
row_by zero (n ∷ octets) e = cc
row_by (suc steps) (n ∷ octets) e =
    let t = both (nat_le n (length octets)) (are_strings_by steps (drop n octets)) e in
    let fits : n ≤ length octets = let test = t.0 in grind (arith, nat_tests) in
    let behind = row_by steps (drop n octets) t.1 in
    let size : length (take n octets) ≡ n = length-take-le n octets fits in
    let whole = take-append-drop n octets in
    let is = behind.1 in
    (take n octets ∷ behind.0, cc)

by_row : (strings : List (List ℕ)) (steps : ℕ) → length (flat_map counted strings) ≤ steps → are_strings_by steps (flat_map counted strings) ≡ true
by_row [] zero h = refl
by_row [] (suc steps) h = refl
by_row (string ∷ strings) zero h = absurd (omega arith)
by_row (string ∷ strings) (suc steps) h =
    let size = length-append string (flat_map counted strings) in
    let fits : nat_le (length string) (length (string ++ flat_map counted strings)) ≡ true = grind (arith, nat_tests) in
    let behind : drop (length string) (string ++ flat_map counted strings) ≡ flat_map counted strings = drop-append_seam string (flat_map counted strings) in
    rw (fits, behind) (by_row strings steps (omega arith))

pub row_of_strings : (octets : List ℕ) → (are_strings octets ≡ true) ↔ Row octets
row_of_strings octets = (λ e. row_by (length octets) octets e, λ row. rw row.1 (by_row row.0 (length (flat_map counted row.0)) (omega arith)))
