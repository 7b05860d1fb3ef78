-- Octets of a buffer that lie from a place on.
use Rattle.std.proofs.Common.{◌≡◌, ℕ, ◌+◌, ◌-◌, ◌≤◌, List, ◌++◌, sym, ap, ◌∙◌, arith, length, take, drop, length-drop, take_all, append_assoc, zero-add}
use Rattle.std.proofs.lemmas.List.{drop-drop, drop-append-le}
use Rattle.std.proofs.lemmas.List.Edits.{take-paste}
use Rattle.std.specs.List.{copy_within}

-- those that are left are moved to the front
pub compacted : (at : ℕ) (items : List ℕ) → at ≤ length items → take (length items - at) (copy_within items at (length items) 0) ≡ drop at items
compacted at items within =
    let left = length items - at in
    let size : length (drop at items) ≡ left = length-drop at items in
    let room : left ≤ length (drop at items) = omega (arith, size) in
    let all : length (drop at items) ≤ left = omega (arith, size) in
    ap (λ (n : ℕ). take n (copy_within items at (length items) 0)) (sym (zero-add left)) ∙ take-paste items 0 (drop at items) left (omega arith) room ∙ take_all left (drop at items) all

-- others come behind them
pub pushed : (at : ℕ) (items octets : List ℕ) → at ≤ length items → drop at (items ++ octets) ≡ drop at items ++ octets
pushed at items octets within = drop-append-le at items octets within

-- two parts come behind them, one behind the other
pub pushed_both : (at : ℕ) (items front back : List ℕ) → at ≤ length items → drop at ((items ++ front) ++ back) ≡ drop at items ++ (front ++ back)
pushed_both at items front back within = ap (drop at) (append_assoc items front back) ∙ drop-append-le at items (front ++ back) within

-- the first of them are gone
pub advanced : (at count : ℕ) (items : List ℕ) → drop (at + count) items ≡ drop count (drop at items)
advanced at count items = sym (drop-drop count at items)
