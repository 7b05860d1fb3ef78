-- The numbers in front of stored names decide their order wherever they differ.
use Rattle.std.proofs.Common.{◌≡◌, refl, sym, ap, ◌∙◌, ℕ, zero, suc, ◌+◌, ◌-◌, ◌*◌, ◌^◌, ◌<◌, ◌≤◌, Bool, true, false, cond, nat_lt, List, [], ◌∷◌, ◌++◌, drop, get_or, arith}
use Rattle.std.specs.Cmp.{nat_cmp_is}
use Rattle.std.specs.Cmp.Lexicographic.{slice_cmp}
use Rattle.std.specs.Ordering.{nat_cmp, ordering_then}
use Rattle.std.specs.declared.cmp.Ordering.{Ordering}
use Rattle.std.specs.declared.cmp.Ordering.TheVariants.{Less, Equal}
use Rattle.std.proofs.lemmas.Bool.{lt-ltb}
use Rattle.std.proofs.lemmas.Bool.Decides.{nat_tests}
use Rattle.std.proofs.Math.Nat.{mul-le-mul_right}
use Rattle.dns_name.specs.Front.{count_of, number_of, front_of, name_front}
use Rattle.dns_name.specs.Name.{canonical_cmp}
use Rattle.dns_name.specs.Stored.{stored_of}
use Rattle.dns_name.proofs.StoredLemmas.{stored_of-cmp}

-- what a test of two numbers says
lt_true : (a b : ℕ) → nat_lt a b ≡ true → a < b
lt_true a b e = grind (arith, nat_tests)

lt_false : (a b : ℕ) → nat_lt a b ≡ false → b ≤ a
lt_false a b e = grind (arith, nat_tests)

-- lists that differ in front, and lists that don't
first_less : (a b : ℕ) (r s : List ℕ) → a < b → slice_cmp nat_cmp (a ∷ r) (b ∷ s) ≡ Less
first_less a b r s h = ap (λ (o : Ordering). ordering_then o (slice_cmp nat_cmp r s)) (sym (nat_cmp_is a b Less h))

first_same : (a b : ℕ) (r s : List ℕ) → a ≡ b → slice_cmp nat_cmp r s ≡ Less → slice_cmp nat_cmp (a ∷ r) (b ∷ s) ≡ Less
first_same a b r s h e = ap (λ (o : Ordering). ordering_then o (slice_cmp nat_cmp r s)) (sym (nat_cmp_is a b Equal h)) ∙ e

-- a first octet counts more than all behind it
some_count : (k : ℕ) → 0 < count_of k
some_count zero = omega arith
some_count (suc k) = let more = some_count k in omega arith

digit_below : (x p r : ℕ) → x < 256 → r < p → x * p + r < 256 * p
digit_below x p r h k =
    let most : x * p ≤ 255 * p = mul-le-mul_right p (omega arith) in omega arith

digit_less : (x y p r s : ℕ) → x < y → r < p → x * p + r < y * p + s
digit_less x y p r s h k =
    let next : suc x * p ≤ y * p = mul-le-mul_right p h in
    let more : suc x * p ≡ x * p + p = grind arith in
    omega arith

-- the number of a first octet and of those behind it, by whether it is an octet, is within what they count
within_by : (x p r : ℕ) (b : Bool) → nat_lt x 256 ≡ b → r < p → cond b (x * p + r) (256 * p - 1) < 256 * p
within_by x p r true e h = digit_below x p r (lt_true x 256 e) h
within_by x p r false e h = omega arith

number_below : (k : ℕ) (octets : List ℕ) → number_of k octets < count_of k
unfolding number_of
number_below zero octets = omega arith
number_below (suc k) [] = some_count (suc k)
number_below (suc k) (x ∷ octets) = within_by x (count_of k) (number_of k octets) (nat_lt x 256) refl (number_below k octets)

-- the number is that of the first octet and of those behind it
no_octets : (k : ℕ) → number_of k [] ≡ 0
unfolding number_of
no_octets zero = refl
no_octets (suc k) = refl

number_step : (k : ℕ) (octets : List ℕ) → get_or octets 0 0 < 256 → number_of (suc k) octets ≡ get_or octets 0 0 * count_of k + number_of k (drop 1 octets)
unfolding number_of
number_step k [] h = let none = no_octets k in omega arith
number_step k (x ∷ octets) h = rw (lt-ltb x 256 h) refl

number_at : (k j : ℕ) (octets : List ℕ) → ((i : ℕ) → get_or octets i 0 < 256) → number_of (suc k) (drop j octets) ≡ get_or octets j 0 * count_of k + number_of k (drop (suc j) octets)
number_at k zero octets h = number_step k octets (h 0)
number_at k (suc j) [] h = let none = no_octets k in let all = no_octets (suc k) in omega arith
number_at k (suc j) (x ∷ octets) h = number_at k j octets (λ i. h (suc i))

nothing_more : (octets : List ℕ) → number_of 0 octets ≡ 0
unfolding number_of
nothing_more octets = refl

-- eight octets, four at a time
pub eight : (octets : List ℕ) → ((i : ℕ) → get_or octets i 0 < 256)
    → number_of 8 octets
    ≡ (get_or octets 0 0 * 16777216 + get_or octets 1 0 * 65536 + get_or octets 2 0 * 256 + get_or octets 3 0) * 4294967296
    + (get_or octets 4 0 * 16777216 + get_or octets 5 0 * 65536 + get_or octets 6 0 * 256 + get_or octets 7 0)
eight octets h =
    let a = number_at 7 0 octets h in
    let b = number_at 6 1 octets h in
    let c = number_at 5 2 octets h in
    let d = number_at 4 3 octets h in
    let e = number_at 3 4 octets h in
    let f = number_at 2 5 octets h in
    let g = number_at 1 6 octets h in
    let i = number_at 0 7 octets h in
    let j = nothing_more (drop 8 octets) in
    omega arith

module _ (x y p r s : ℕ) (own others : List ℕ) (rest : r < s → slice_cmp nat_cmp own others ≡ Less) where
  -- two first octets, by how they stand
  octets_by : r < p → s < p → x * p + r < y * p + s → (b c : Bool) → nat_lt x y ≡ b → nat_lt y x ≡ c → slice_cmp nat_cmp (x ∷ own) (y ∷ others) ≡ Less
  octets_by h k less true c e f = first_less x y own others (lt_true x y e)
  octets_by h k less false true e f =
      let over = digit_less y x p s r (lt_true y x f) k in absurd (omega arith)
  octets_by h k less false false e f =
      let up = lt_false x y e in
      let down = lt_false y x f in
      let same : x ≡ y = omega arith in
      let first : x * p ≡ y * p = ap (λ (n : ℕ). n * p) same in
      first_same x y own others same (rest (omega arith))

  -- and by whether they are octets
  digits_by : r < p → s < p → (b c : Bool) → nat_lt x 256 ≡ b → nat_lt y 256 ≡ c → cond b (x * p + r) (256 * p - 1) < cond c (y * p + s) (256 * p - 1) → slice_cmp nat_cmp (x ∷ own) (y ∷ others) ≡ Less
  digits_by h k true true e f less = octets_by h k less (nat_lt x y) (nat_lt y x) refl refl
  digits_by h k true false e f less =
      let over = lt_false y 256 f in
      let small = lt_true x 256 e in
      first_less x y own others (omega arith)
  digits_by h k false true e f less =
      let most = digit_below y p s (lt_true y 256 f) k in absurd (omega arith)
  digits_by h k false false e f less = absurd (omega arith)

-- one number less than another
number_lower : (k : ℕ) (own others : List ℕ) → number_of k own < number_of k others → slice_cmp nat_cmp own others ≡ Less
unfolding number_of
number_lower zero own others h = absurd (omega arith)
number_lower (suc k) [] [] h = absurd (omega arith)
number_lower (suc k) [] (y ∷ others) h = refl
number_lower (suc k) (x ∷ own) [] h = absurd (omega arith)
number_lower (suc k) (x ∷ own) (y ∷ others) h =
    digits_by x y (count_of k) (number_of k own) (number_of k others) own others (number_lower k own others) (number_below k own) (number_below k others)
    (nat_lt x 256) (nat_lt y 256) refl refl h

-- what the octets that others begin with leave
most_by : (b c : Bool) (n : ℕ) → n ≤ 2 ^ 64 - 1 → cond b 0 (cond c (2 ^ 64 - 1) n) ≤ 2 ^ 64 - 1
most_by true c n h = omega arith
most_by false true n h = omega arith
most_by false false n h = h

front_below : (base octets : List ℕ) → front_of base octets ≤ 2 ^ 64 - 1
unfolding front_of
front_below [] octets = let most = number_below 8 octets in omega arith
front_below (b ∷ base) [] = omega arith
front_below (b ∷ base) (x ∷ octets) = most_by (nat_lt x b) (nat_lt b x) (front_of base octets) (front_below base octets)

module _ (x y b m n : ℕ) (own others : List ℕ) (rest : m < n → slice_cmp nat_cmp own others ≡ Less) where
  -- two first octets, by how each stands to one that others begin with
  bases_by : n ≤ 2 ^ 64 - 1 → (c d e f : Bool) → nat_lt x b ≡ c → nat_lt b x ≡ d → nat_lt y b ≡ e → nat_lt b y ≡ f
      → cond c 0 (cond d (2 ^ 64 - 1) m) < cond e 0 (cond f (2 ^ 64 - 1) n) → slice_cmp nat_cmp (x ∷ own) (y ∷ others) ≡ Less
  bases_by k c d true f hc hd he hf less = absurd (omega arith)
  bases_by k true d false f hc hd he hf less =
      let up = lt_true x b hc in
      let down = lt_false y b he in
      first_less x y own others (omega arith)
  bases_by k false true false true hc hd he hf less = absurd (omega arith)
  bases_by k false true false false hc hd he hf less = absurd (omega arith)
  bases_by k false false false true hc hd he hf less =
      let up = lt_true b y hf in
      let down = lt_false b x hd in
      first_less x y own others (omega arith)
  bases_by k false false false false hc hd he hf less =
      let one = lt_false x b hc in
      let two = lt_false b x hd in
      let three = lt_false y b he in
      let four = lt_false b y hf in
      first_same x y own others (omega arith) (rest less)

pub front_lower : (base own others : List ℕ) → front_of base own < front_of base others → slice_cmp nat_cmp own others ≡ Less
unfolding front_of
front_lower [] own others h = number_lower 8 own others h
front_lower (b ∷ base) [] [] h = absurd (omega arith)
front_lower (b ∷ base) [] (y ∷ others) h = refl
front_lower (b ∷ base) (x ∷ own) [] h = absurd (omega arith)
front_lower (b ∷ base) (x ∷ own) (y ∷ others) h =
    bases_by x y b (front_of base own) (front_of base others) own others (front_lower base own others) (front_below base others)
    (nat_lt x b) (nat_lt b x) (nat_lt y b) (nat_lt b y) refl refl refl refl h

-- octets that begin so
lt_self : (n : ℕ) → nat_lt n n ≡ false
lt_self n = grind (arith, nat_tests)

front_begun : (base rest : List ℕ) → front_of base (base ++ rest) ≡ number_of 8 rest
unfolding front_of
front_begun [] rest = refl
front_begun (b ∷ base) rest = rw (lt_self b) (front_begun base rest)

pub front_at : (base octets rest : List ℕ) → octets ≡ base ++ rest → front_of base octets ≡ number_of 8 rest
front_at base octets rest e = ap (front_of base) e ∙ front_begun base rest

-- so it is of names
pub name_lower : (base name other : List (List ℕ)) → name_front base name < name_front base other → canonical_cmp name other ≡ Less
name_lower base name other h = sym (stored_of-cmp name other) ∙ front_lower (stored_of base) (stored_of name) (stored_of other) h
