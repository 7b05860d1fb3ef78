-- Serials that rise by less than half the ring in all differ.
use Rattle.std.proofs.Common.{◌≡◌, ◌≢◌, ℕ, ◌+◌, ◌-◌, ◌^◌, ◌<◌, ◌≤◌, true, List, [], ◌∷◌, All, ⊎_elim, sym, ap, arith}
use Rattle.std.specs.List.{AllPairs}
use Rattle.std.proofs.lemmas.Bool.{cases_lt}
use Rattle.std.proofs.lemmas.Bool.Decides.{nat_tests}
use Rattle.std.proofs.lemmas.List.Elements.{All-nil, All-cons}
use Rattle.std.proofs.lemmas.List.Kept.{AllPairs-cons}
use Rattle.dns_rdata.specs.SerialOrder.{serial_distance}
use Rattle.dns_rdata.proofs.SerialLemmas.{less-ahead}
use Rattle.transfer_core.specs.Window.{span, fits, AreRising}

-- a distance by the two cases
up : (a b : ℕ) → a < 2 ^ 32 → b < 2 ^ 32 → a ≤ b → serial_distance a b ≡ b - a
up a b h k e = omega arith

round : (a b : ℕ) → a < 2 ^ 32 → b < 2 ^ 32 → b < a → serial_distance a b ≡ b + 2 ^ 32 - a
round a b h k e = omega arith

-- distances add up
added : (a b c : ℕ) → a < 2 ^ 32 → b < 2 ^ 32 → c < 2 ^ 32 → serial_distance a b + serial_distance b c < 2 ^ 31 → serial_distance a c ≡ serial_distance a b + serial_distance b c
added a b c h k l short =
    ⊎_elim
    (λ (e : b < a). let d = round a b h k e in ⊎_elim (λ (f : c < b). let g = round b c k l f in absurd (omega arith)) (λ (f : b ≤ c). let g = up b c k l f in ⊎_elim (λ (n : c < a). let m = round a c h l n in omega arith) (λ (n : a ≤ c). absurd (omega arith)) (cases_lt c a)) (cases_lt c b))
    (λ (e : a ≤ b). let d = up a b h k e in ⊎_elim (λ (f : c < b). let g = round b c k l f in ⊎_elim (λ (n : c < a). let m = round a c h l n in omega arith) (λ (n : a ≤ c). absurd (omega arith)) (cases_lt c a)) (λ (f : b ≤ c). let g = up b c k l f in let m = up a c h l (omega arith) in omega arith) (cases_lt c b))
    (cases_lt b a)

apart : (a b : ℕ) → a < 2 ^ 32 → 0 < serial_distance a b → a ≢ b
apart a b h some e =
    let same : serial_distance a a ≡ a - a = up a a h h (omega arith) in
    let d : serial_distance a b ≡ serial_distance a a = ap (serial_distance a) (sym e) in
    absurd (omega (arith, same, d, some))

first_fits : (serial : ℕ) (serials : List ℕ) → AreRising serial serials → serial < 2 ^ 32
first_fits serial [] h = h
first_fits serial (next ∷ serials) h = h.0

-- from a serial, through one that is ahead of it
far : (a b : ℕ) (xs : List ℕ) → a < 2 ^ 32 → 0 < serial_distance a b → AreRising b xs → serial_distance a b + span b xs < 2 ^ 31 → All (λ x. a ≢ x) (b ∷ xs)
far a b [] h some rising short = All-cons (λ x. a ≢ x) b [] (apart a b h some) (All-nil (λ x. a ≢ x))
far a b (c ∷ xs) h some rising short =
    let c_fits : c < 2 ^ 32 = first_fits c xs rising.2 in
    let b_fits : b < 2 ^ 32 = rising.0 in
    let ahead = less-ahead b c b_fits c_fits rising.1 in
    let some_more : 0 < serial_distance b c = ahead.0 in
    let both : serial_distance a b + serial_distance b c < 2 ^ 31 = omega (arith, short) in
    let d : serial_distance a c ≡ serial_distance a b + serial_distance b c = added a b c h b_fits c_fits both in
    All-cons (λ x. a ≢ x) b (c ∷ xs) (apart a b h some) (far a c xs h (omega (arith, d, some)) rising.2 (omega (arith, d, short)))

differ : (serial : ℕ) (serials : List ℕ) → AreRising serial serials → span serial serials < 2 ^ 31 → AllPairs (λ a b. a ≢ b) (serial ∷ serials)
differ serial [] rising short = AllPairs-cons (λ a b. a ≢ b) serial [] (All-nil (λ x. serial ≢ x)) (λ i j d before within. absurd (omega arith))
differ serial (next ∷ serials) rising short =
    let next_fits : next < 2 ^ 32 = first_fits next serials rising.2 in
    let ahead = less-ahead serial next rising.0 next_fits rising.1 in
    AllPairs-cons (λ a b. a ≢ b) serial (next ∷ serials) (far serial next serials rising.0 ahead.0 rising.2 short) (differ next serials rising.2 (omega (arith, short)))

pub all_differ : (size serial : ℕ) (serials : List ℕ) → AreRising serial serials → fits size (serial ∷ serials) ≡ true → AllPairs (λ a b. a ≢ b) (serial ∷ serials)
all_differ size serial serials rising e =
    let short : span serial serials < 2 ^ 31 = grind (arith, nat_tests) in
    differ serial serials rising short
