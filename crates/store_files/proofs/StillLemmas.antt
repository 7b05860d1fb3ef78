-- What stands in front of the zeros that octets end with.
use Rattle.std.proofs.Common.{◌≡◌, ℕ, ◌+◌, ◌-◌, ◌<◌, ◌≤◌, List, [], ◌++◌, length, take, get_or, sym, ap, ◌∙◌, length-append, append_assoc, arith, ◌⊎◌, inl, inr}
use Rattle.std.specs.List.{IsLastAndRest}
use Rattle.std.proofs.lemmas.Bool.{cases_lt}
use Rattle.std.proofs.lemmas.List.{get_or_append_left}
use Rattle.std.proofs.Math.Seq.{take-append-add, take-append_seam, get_or-append_right, get_or-append_seam}
use Rattle.journal.specs.Disk.{BeginsWith}
use Rattle.store_files.specs.Still.{AreZerosBehind, IsInFront}

-- the last of some octets isn't 0
abbrev pub IsZeroLess : List ℕ → Type 0
IsZeroLess octets = 0 < length octets → get_or octets (length octets - 1) 0 ≡ 0 → ⊥

-- they begin all others in front of zeros
begins_other : (octets front other : List ℕ) → AreZerosBehind octets front → IsZeroLess front → AreZerosBehind octets other → BeginsWith other front
begins_other octets front other behind last others = by_length (cases_lt (length other) (length front))
  where
    same : front ++ behind.0 ≡ other ++ others.0
    same = sym behind.1 ∙ others.1

    long : length front + length behind.0 ≡ length other + length others.0
    long = sym (length-append front behind.0) ∙ (ap length same ∙ length-append other others.0)

    by_length : (length other < length front) ⊎ (length front ≤ length other) → BeginsWith other front
    by_length (inl shorter) =
        let at : ℕ = length front - 1 in
        let in_front = get_or_append_left front behind.0 0 at (omega arith) in
        let in_zeros = get_or-append_right other others.0 at 0 (omega arith) in
        let zero_there = others.2 (at - length other) 0 (omega (arith, long)) in
        absurd (last (omega arith) (sym in_front ∙ (ap (λ (o : List ℕ). get_or o at 0) same ∙ (in_zeros ∙ zero_there))))
    by_length (inr not_shorter) =
        let more : ℕ = length other - length front in
        let there : length front + more ≡ length other = omega arith in (
          take more behind.0,
          sym (take-append_seam other others.0)
              ∙ (sym (ap (take (length other)) same)
              ∙ (ap (λ (n : ℕ). take n (front ++ behind.0)) (sym there) ∙ take-append-add front behind.0 more)),
        )

pub is_in_front : (octets front : List ℕ) → AreZerosBehind octets front → IsZeroLess front → IsInFront octets front
is_in_front octets front behind last = (behind, λ other others. begins_other octets front other behind last others)

-- octets whose last one is known not to be 0
pub last_is_no_zero : (octets before : List ℕ) (last : ℕ) → IsLastAndRest octets last before → (last ≡ 0 → ⊥) → IsZeroLess octets
last_is_no_zero octets before last is not_zero some zero =
    let at : length before ≡ length octets - 1 = omega (arith, is.1) in
    not_zero (sym (get_or-append_seam before last [] 0)
    ∙ (ap (λ (o : List ℕ). get_or o (length before) 0) (sym is.0) ∙ (ap (λ (n : ℕ). get_or octets n 0) at ∙ zero)))

-- what begins with octets begins with what these begin with
pub begins_with_less : (again front less : List ℕ) → BeginsWith front less → BeginsWith again front → BeginsWith again less
begins_with_less again front less begins behind =
    (begins.0 ++ behind.0, behind.1 ∙ (ap (λ (o : List ℕ). o ++ behind.0) begins.1 ∙ append_assoc less begins.0 behind.0))
