-- How many octets others stand for: what stands for one, and what is behind it.
use Rattle.std.proofs.Common.{◌≡◌, ◌≢◌, ◌+◌, ◌<◌, ◌∙◌, ℕ, zero, suc, List, [], ◌∷◌, length, drop, get_or, sym, ap, arith}
use Rattle.std.proofs.lemmas.List.{length-drop, drop-drop, get_or-drop}
use Rattle.dns_name.specs.Stored.{octets_stored}

-- what stands for one octet, and the others behind it
step_by : (octets : List ℕ) (x k : ℕ) → 0 < length octets → x ≡ get_or octets 0 0 → (x ≡ 1 → k ≡ 2) → (x ≢ 1 → k ≡ 1) → length (octets_stored octets) ≡ 1 + length (octets_stored (drop k octets))
step_by [] x k some is two one = absurd (omega arith)
step_by (zero ∷ octets) x k some is two one =
    let e : k ≡ 1 = one (λ (same : x ≡ 1). omega arith) in
    let rest = ap (λ (n : ℕ). length (octets_stored (drop n (0 ∷ octets)))) e in omega arith
step_by (suc zero ∷ []) x k some is two one =
    let rest = ap (λ (n : ℕ). length (octets_stored (drop n (1 ∷ [])))) (two is) in omega arith
step_by (suc zero ∷ c ∷ octets) x k some is two one =
    let rest = ap (λ (n : ℕ). length (octets_stored (drop n (1 ∷ c ∷ octets)))) (two is) in omega arith
step_by (suc (suc c) ∷ octets) x k some is two one =
    let e : k ≡ 1 = one (λ (same : x ≡ 1). omega arith) in
    let rest = ap (λ (n : ℕ). length (octets_stored (drop n (suc (suc c) ∷ octets)))) e in omega arith

pub stored_step : (octets : List ℕ) (at x k : ℕ) → at < length octets → x ≡ get_or octets at 0 → (x ≡ 1 → k ≡ 2) → (x ≢ 1 → k ≡ 1) → length (octets_stored (drop at octets)) ≡ 1 + length (octets_stored (drop (at + k) octets))
stored_step octets at x k within is two one =
    let size = length-drop at octets in
    let same : at ≡ at + 0 = omega arith in
    let there : x ≡ get_or (drop at octets) 0 0 = is ∙ ap (λ (n : ℕ). get_or octets n 0) same ∙ sym (get_or-drop at octets 0 0) in
    let rest = step_by (drop at octets) x k (omega arith) there two one in
    let both = ap (λ (os : List ℕ). length (octets_stored os)) (drop-drop k at octets) in
    omega arith
