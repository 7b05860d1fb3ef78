-- Numbers read from the front: the digits that are read, and those that are left.
use Rattle.std.proofs.Common.{◌≡◌, ℕ, ◌+◌, ◌-◌, ◌*◌, ◌<◌, ◌≤◌, Bool, true, false, cond, ◌&&◌, nat_lt, nat_le, List, [], ◌∷◌, length, drop, Option, Some, None, refl, ap, ◌∙◌, arith}
use Rattle.std.specs.List.{list_all}
use Rattle.std.specs.Char.{is_ascii_digit}
use Rattle.std.proofs.lemmas.Bool.Decides.{nat_tests}
use Rattle.std.proofs.lemmas.List.{drop_all}
use Rattle.record_text.specs.Number.{value_after, decimal_of}

-- the number of the digits that are left behind those of n
abbrev pub left_after : ℕ → ℕ → List ℕ → Option ℕ
left_after most n text = cond (list_all is_ascii_digit text && nat_le (value_after n text) most) (Some (value_after n text)) None

-- more digits make no number less
pub value_after-grows : (n : ℕ) (text : List ℕ) → n ≤ value_after n text
value_after-grows n [] = omega arith
value_after-grows n (d ∷ text) = let more = value_after-grows (n * 10 + (d - 48)) text in omega arith

-- one digit more
abbrev pub with_digit : ℕ → ℕ → ℕ → Option ℕ
with_digit most n d = cond (is_ascii_digit d && nat_le (n * 10 + (d - 48)) most) (Some (n * 10 + (d - 48))) None

le_false : (m n : ℕ) → n < m → nat_le m n ≡ false
le_false m n h = grind (arith, nat_tests)

lt_not : (m n : ℕ) → nat_le m n ≡ false → n < m
lt_not m n h = grind (arith, nat_tests)

le_true : (m n : ℕ) → nat_le m n ≡ true → m ≤ n
le_true m n h = grind (arith, nat_tests)

pub by_test : (P : Bool → Type 0) (b : Bool) → (b ≡ true → P true) → (b ≡ false → P false) → P b
by_test P true h k = h refl
by_test P false h k = k refl

and_false : (b : Bool) → (b && false) ≡ false
and_false true = refl
and_false false = refl

pub left_after-some : (most n d m : ℕ) (text : List ℕ) → with_digit most n d ≡ Some m → left_after most n (d ∷ text) ≡ left_after most m text
left_after-some most n d m text =
    by_test (λ b. cond (b && nat_le (n * 10 + (d - 48)) most) (Some (n * 10 + (d - 48))) None ≡ Some m → cond (b && list_all is_ascii_digit text && nat_le (value_after (n * 10 + (d - 48)) text) most) (Some (value_after (n * 10 + (d - 48)) text)) None ≡ left_after most m text) (is_ascii_digit d)
    (λ _. by_test (λ b. cond b (Some (n * 10 + (d - 48))) None ≡ Some m → left_after most (n * 10 + (d - 48)) text ≡ left_after most m text) (nat_le (n * 10 + (d - 48)) most)
    (λ _ e. let same : n * 10 + (d - 48) ≡ m = cc in ap (λ (k : ℕ). left_after most k text) same)
    (λ _ e. cc))
    (λ _ e. cc)

pub left_after-none : (most n d : ℕ) (text : List ℕ) → with_digit most n d ≡ None → left_after most n (d ∷ text) ≡ None
left_after-none most n d text =
    by_test (λ b. cond (b && nat_le (n * 10 + (d - 48)) most) (Some (n * 10 + (d - 48))) None ≡ None → cond (b && list_all is_ascii_digit text && nat_le (value_after (n * 10 + (d - 48)) text) most) (Some (value_after (n * 10 + (d - 48)) text)) None ≡ None) (is_ascii_digit d)
    (λ _. by_test (λ b. nat_le (n * 10 + (d - 48)) most ≡ b → cond b (Some (n * 10 + (d - 48))) None ≡ None → left_after most (n * 10 + (d - 48)) text ≡ None) (nat_le (n * 10 + (d - 48)) most)
    (λ _ _ e. cc)
    (λ over _ e.
    let grows = value_after-grows (n * 10 + (d - 48)) text in
    let past = lt_not (n * 10 + (d - 48)) most over in
    let test = le_false (value_after (n * 10 + (d - 48)) text) most (omega arith) in
    ap (λ (b : Bool). cond (list_all is_ascii_digit text && b) (Some (value_after (n * 10 + (d - 48)) text)) None) test
    ∙ ap (λ (b : Bool). cond b (Some (value_after (n * 10 + (d - 48)) text)) None) (and_false (list_all is_ascii_digit text))) refl)
    (λ _ e. refl)

pub with_digit-within : (most n d m : ℕ) → with_digit most n d ≡ Some m → m ≤ most
with_digit-within most n d m =
    by_test (λ b. cond (b && nat_le (n * 10 + (d - 48)) most) (Some (n * 10 + (d - 48))) None ≡ Some m → m ≤ most) (is_ascii_digit d)
    (λ _. by_test (λ b. nat_le (n * 10 + (d - 48)) most ≡ b → cond b (Some (n * 10 + (d - 48))) None ≡ Some m → m ≤ most) (nat_le (n * 10 + (d - 48)) most)
    (λ _ within e. let same : n * 10 + (d - 48) ≡ m = cc in let is = le_true (n * 10 + (d - 48)) most within in omega arith)
    (λ _ _ e. cc) refl)
    (λ _ e. cc)

-- a text that isn't empty is read from its front
pub decimal_of-some : (most : ℕ) (text : List ℕ) → 0 < length text → decimal_of most text ≡ left_after most 0 text
unfolding decimal_of
decimal_of-some most text h = let t : nat_lt 0 (length text) ≡ true = grind (arith, nat_tests) in rw t refl

pub decimal_of-none : (most : ℕ) (text : List ℕ) → length text ≡ 0 → decimal_of most text ≡ None
unfolding decimal_of
decimal_of-none most text h = let t : nat_lt 0 (length text) ≡ false = grind (arith, nat_tests) in rw t refl

-- at the end
pub left_after-end : (most n i : ℕ) (text : List ℕ) → length text ≤ i → n ≤ most → left_after most n (drop i text) ≡ Some n
left_after-end most n i text h within =
    let t : nat_le n most ≡ true = grind (arith, nat_tests) in
    rw (drop_all i text h, t) refl
