-- Serials on their ring of 32 bits (RFC 1982).
use Rattle.std.proofs.Common.{◌≡◌, ℕ, ◌+◌, ◌-◌, ◌%◌, ◌^◌, ◌<◌, ◌≤◌, ◌⊎◌, inl, inr, ⊎_elim, true, false, arith}
use Rattle.std.specs.Bool.{Decides}
use Rattle.std.proofs.lemmas.Bool.{cases_lt, cases_Bool}
use Rattle.std.proofs.lemmas.Bool.Decides.{Decides-and, Decides-or, Decides-ltb}
use Rattle.dns_rdata.specs.SerialOrder.{sum_by, serial_less, serial_next, serial_distance}

-- the two cases in which a serial is less than another
abbrev pub IsLess : ℕ → ℕ → Type 0
IsLess a b = ((a < b) × (b - a < 2147483648)) ⊎ ((b < a) × (2147483648 < a - b))

pub Decides-serial_less : (a b : ℕ) → Decides (serial_less a b) (IsLess a b)
Decides-serial_less a b =
    Decides-or _ _
    (Decides-and _ _ (Decides-ltb a b) (Decides-ltb (b - a) 2147483648))
    (Decides-and _ _ (Decides-ltb b a) (Decides-ltb 2147483648 (a - b)))

refuted : (a b : ℕ) → (IsLess a b → ⊥) → serial_less a b ≡ false
refuted a b h = ⊎_elim (λ e. absurd (h ((Decides-serial_less a b).0 e))) (λ e. e) (cases_Bool (serial_less a b))

-- a serial and a number of less than half the ring added to it: the serial is less
pub less-sum : (a n : ℕ) → a < 2 ^ 32 → 0 < n → n < 2 ^ 31 → serial_less a (sum_by 32 a n) ≡ true
less-sum a n h some short =
    let below : (a + n < 2 ^ 32) ⊎ (2 ^ 32 ≤ a + n) = cases_lt (a + n) (2 ^ 32) in
    let is : IsLess a ((a + n) % 2 ^ 32) = ⊎_elim (λ e. inl (omega arith, omega arith)) (λ e. inr (omega arith, omega arith)) below in
    (Decides-serial_less a ((a + n) % 2 ^ 32)).1 is

pub less-next : (a : ℕ) → a < 2 ^ 32 → serial_less a (serial_next a) ≡ true
less-next a h = less-sum a 1 h (omega arith) (omega arith)

-- no serial is less than itself
pub less-same : (a : ℕ) → serial_less a a ≡ false
less-same a = refuted a a (λ is. ⊎_elim (λ e. let h = e.0 in absurd (omega arith)) (λ e. let h = e.0 in absurd (omega arith)) is)

-- of two serials at most one is less
pub less-other : (a b : ℕ) → serial_less a b ≡ true → serial_less b a ≡ false
less-other a b e =
    let is = (Decides-serial_less a b).0 e in
    refuted b a (λ back. ⊎_elim
    (λ p. let p0 = p.0 in let p1 = p.1 in ⊎_elim (λ q. let q0 = q.0 in let q1 = q.1 in absurd (omega arith)) (λ q. let q0 = q.0 in let q1 = q.1 in absurd (omega arith)) back)
    (λ p. let p0 = p.0 in let p1 = p.1 in ⊎_elim (λ q. let q0 = q.0 in let q1 = q.1 in absurd (omega arith)) (λ q. let q0 = q.0 in let q1 = q.1 in absurd (omega arith)) back)
    is)

-- what is added to a serial to come to another
pub sum-distance : (a b : ℕ) → a < 2 ^ 32 → b < 2 ^ 32 → sum_by 32 a (serial_distance a b) ≡ b
sum-distance a b h k =
    ⊎_elim
    (λ (e : b < a). let d : (b + 2 ^ 32 - a) % 2 ^ 32 ≡ b + 2 ^ 32 - a = omega arith in omega arith)
    (λ (e : a ≤ b). let d : (b + 2 ^ 32 - a) % 2 ^ 32 ≡ b - a = omega arith in omega arith)
    (cases_lt b a)

-- a serial is less than those up to just under half the ring ahead of it
ahead : (a b : ℕ) → a < 2 ^ 32 → b < 2 ^ 32 → IsLess a b → (0 < serial_distance a b) × (serial_distance a b < 2 ^ 31)
ahead a b h k is =
    ⊎_elim
    (λ (e : (a < b) × (b - a < 2147483648)). let p = e.0 in let q = e.1 in let d : (b + 2 ^ 32 - a) % 2 ^ 32 ≡ b - a = omega arith in (omega arith, omega arith))
    (λ (e : (b < a) × (2147483648 < a - b)). let p = e.0 in let q = e.1 in let d : (b + 2 ^ 32 - a) % 2 ^ 32 ≡ b + 2 ^ 32 - a = omega arith in (omega arith, omega arith))
    is

behind : (a b : ℕ) → a < 2 ^ 32 → b < 2 ^ 32 → 0 < serial_distance a b → serial_distance a b < 2 ^ 31 → IsLess a b
behind a b h k some short =
    ⊎_elim
    (λ (e : b < a). let d : (b + 2 ^ 32 - a) % 2 ^ 32 ≡ b + 2 ^ 32 - a = omega arith in inr (e, omega arith))
    (λ (e : a ≤ b). let d : (b + 2 ^ 32 - a) % 2 ^ 32 ≡ b - a = omega arith in inl (omega arith, omega arith))
    (cases_lt b a)

pub less-ahead : (a b : ℕ) → a < 2 ^ 32 → b < 2 ^ 32 → serial_less a b ≡ true → (0 < serial_distance a b) × (serial_distance a b < 2 ^ 31)
less-ahead a b h k e = ahead a b h k ((Decides-serial_less a b).0 e)

pub less-behind : (a b : ℕ) → a < 2 ^ 32 → b < 2 ^ 32 → 0 < serial_distance a b → serial_distance a b < 2 ^ 31 → serial_less a b ≡ true
less-behind a b h k some short = (Decides-serial_less a b).1 (behind a b h k some short)

-- of two serials half the ring apart neither is less
pub less-half : (a b : ℕ) → a < 2 ^ 32 → b < 2 ^ 32 → serial_distance a b ≡ 2 ^ 31 → (serial_less a b ≡ false) × (serial_less b a ≡ false)
less-half a b h k e =
    let back : serial_distance b a ≡ 2 ^ 31 =
    ⊎_elim
    (λ (f : b < a). let d : (b + 2 ^ 32 - a) % 2 ^ 32 ≡ b + 2 ^ 32 - a = omega arith in let g : (a + 2 ^ 32 - b) % 2 ^ 32 ≡ a - b = omega arith in omega arith)
    (λ (f : a ≤ b). let d : (b + 2 ^ 32 - a) % 2 ^ 32 ≡ b - a = omega arith in omega arith)
    (cases_lt b a) in (
      refuted a b (λ is. let far = ahead a b h k is in absurd (omega arith)),
      refuted b a (λ is. let far = ahead b a k h is in absurd (omega arith)),
    )
