-- Numbers that are added place by place.
use Rattle.std.proofs.Common.{◌≡◌, ◌≢◌, ℕ, ◌+◌, ◌<◌, ◌≤◌, List, length, get_or, arith, ap, ◌∙◌, get_or-set_other, get_or-set_same, below_more}
use Rattle.counters.specs.Sums.{both, more_at}

-- sums before a place, and one more at it
pub sums_more : (old others now next : List ℕ) (place : ℕ) → next ≡ more_at place (get_or others place 0) now → place < length now
    → ((k : ℕ) → k < place → get_or now k 0 ≡ both (get_or old k 0) (get_or others k 0)) → ((k : ℕ) → place ≤ k → get_or now k 0 ≡ get_or old k 0)
    → (k : ℕ) → k < place + 1 → get_or next k 0 ≡ both (get_or old k 0) (get_or others k 0)
sums_more old others now next place is within before after =
    let sum = both (get_or now place 0) (get_or others place 0) in
    let same : place ≤ place = omega arith in
    below_more (λ k. get_or next k 0 ≡ both (get_or old k 0) (get_or others k 0)) place
    (λ k h.
    let other : k ≢ place = omega arith in
    ap (λ (ns : List ℕ). get_or ns k 0) is ∙ (get_or-set_other now place k sum 0 other ∙ before k h))
    (ap (λ (ns : List ℕ). get_or ns place 0) is ∙ (get_or-set_same now place sum 0 within ∙ ap (λ n. both n (get_or others place 0)) (after place same)))

-- and after it what was there
pub sums_rest : (old others now next : List ℕ) (place : ℕ) → next ≡ more_at place (get_or others place 0) now → ((k : ℕ) → place ≤ k → get_or now k 0 ≡ get_or old k 0)
    → (k : ℕ) → place + 1 ≤ k → get_or next k 0 ≡ get_or old k 0
sums_rest old others now next place is after k h =
    let sum = both (get_or now place 0) (get_or others place 0) in
    let other : k ≢ place = omega arith in
    let past : place ≤ k = omega arith in
    ap (λ (ns : List ℕ). get_or ns k 0) is ∙ (get_or-set_other now place k sum 0 other ∙ after k past)
