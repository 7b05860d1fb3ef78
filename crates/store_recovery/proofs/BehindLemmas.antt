-- The batches behind the first updates of a store.
use Rattle.std.proofs.Common.{◌≡◌, ℕ, ◌+◌, ◌-◌, ◌≤◌, ◌<◌, Bool, true, false, nat_lt, List, [], ◌∷◌, ◌++◌, length, take, drop, map, if◌then◌else◌, refl, sym, ap, ◌∙◌, length-append, arith}
use Rattle.std.specs.Prelude.{All}
use Rattle.std.proofs.lemmas.Bool.{ltb-true, ltb-false}
use Rattle.std.proofs.lemmas.List.{take-append-drop, drop-append-le}
use Rattle.std.proofs.lemmas.List.Elements.{All-nil, All-cons, All-head, All-tail, All-drop}
use Rattle.std.proofs.lemmas.List.Concat.{flat_map-append}
use Rattle.std.proofs.Math.Seq.{drop-nil, drop-append-add}
use Rattle.journal.specs.Batch.{Messages, request_octets, batch_of, IsRequest}
use Rattle.journal.specs.Frame.{Fit}
use Rattle.journal.specs.Recovered.{updates_in}
use Rattle.store_recovery.specs.Behind.{AreBehind, batches_behind}

-- their updates are those behind the first ones
all_at : (k : ℕ) (batch : List Messages) (batches : List (List Messages)) (within : Bool) → nat_lt k (length batch) ≡ within
    → updates_in (batches_behind (k - length batch) batches) ≡ drop (k - length batch) (updates_in batches)
    → updates_in (if within then drop k batch ∷ batches else batches_behind (k - length batch) batches) ≡ drop k (batch ++ updates_in batches)
all_at k batch batches true e more =
    let below : k < length batch = ltb-true k (length batch) e in
    let few : k ≤ length batch = omega (arith, below) in
    sym (drop-append-le k batch (updates_in batches) few)
all_at k batch batches false e more =
    let many : length batch ≤ k = ltb-false k (length batch) e in
    let place : length batch + (k - length batch) ≡ k = omega (arith, many) in
    more ∙ (sym (drop-append-add batch (updates_in batches) (k - length batch)) ∙ ap (λ (n : ℕ). drop n (batch ++ updates_in batches)) place)

all_behind : (k : ℕ) (batches : List (List Messages)) → updates_in (batches_behind k batches) ≡ drop k (updates_in batches)
all_behind k [] = sym (drop-nil k)
all_behind k (batch ∷ batches) = all_at k batch batches (nat_lt k (length batch)) refl (all_behind (k - length batch) batches)

-- and are as short
short_at : (k : ℕ) (batch : List Messages) (batches : List (List Messages)) (within : Bool) → All (All IsRequest) (batch ∷ batches)
    → All (All IsRequest) (batches_behind (k - length batch) batches)
    → All (All IsRequest) (if within then drop k batch ∷ batches else batches_behind (k - length batch) batches)
short_at k batch batches true short more =
    All-cons (All IsRequest) (drop k batch) batches (All-drop IsRequest k batch (All-head (All IsRequest) batch batches short)) (All-tail (All IsRequest) batch batches short)
short_at k batch batches false short more = more

short_behind : (k : ℕ) (batches : List (List Messages)) → All (All IsRequest) batches → All (All IsRequest) (batches_behind k batches)
short_behind k [] short = All-nil (All IsRequest)
short_behind k (batch ∷ batches) short =
    short_at k batch batches (nat_lt k (length batch)) short (short_behind (k - length batch) batches (All-tail (All IsRequest) batch batches short))

-- what fits from a number on fits from a lower one
fit_from : (number low : ℕ) (bodies : List (List ℕ)) → low ≤ number → Fit number bodies → Fit low bodies
fit_from number low [] few fit = tt
fit_from number low (body ∷ bodies) few fit = (fit.0, omega (arith, few, fit.1), fit_from (number + 1) (low + 1) bodies (omega (arith, few)) fit.2)

-- what is left of a batch has no more octets
fewer : (k : ℕ) (batch : List Messages) → length (batch_of (drop k batch)) ≤ length (batch_of batch)
fewer k batch =
    let parts : batch_of batch ≡ batch_of (take k batch) ++ batch_of (drop k batch) =
    ap batch_of (sym (take-append-drop k batch)) ∙ flat_map-append request_octets (take k batch) (drop k batch) in
    omega (arith, ap length parts, length-append (batch_of (take k batch)) (batch_of (drop k batch)))

-- so they fit
fit_at : (k number : ℕ) (batch : List Messages) (batches : List (List Messages)) (within : Bool) → Fit number (map batch_of (batch ∷ batches))
    → Fit number (map batch_of (batches_behind (k - length batch) batches))
    → Fit number (map batch_of (if within then drop k batch ∷ batches else batches_behind (k - length batch) batches))
fit_at k number batch batches true fit more = (omega (arith, fewer k batch, fit.0), fit.1, fit.2)
fit_at k number batch batches false fit more = more

fit_behind : (k number : ℕ) (batches : List (List Messages)) → Fit number (map batch_of batches) → Fit number (map batch_of (batches_behind k batches))
fit_behind k number [] fit = tt
fit_behind k number (batch ∷ batches) fit =
    fit_at k number batch batches (nat_lt k (length batch)) fit
    (fit_behind (k - length batch) number batches (fit_from (number + 1) number (map batch_of batches) (omega arith) fit.2))

pub are_behind : (batches : List (List Messages)) (k : ℕ) → All (All IsRequest) batches → Fit 0 (map batch_of batches) → AreBehind k batches (batches_behind k batches)
are_behind batches k short fit = record { all = all_behind k batches; short = short_behind k batches short; fit = fit_behind k 0 batches fit }
