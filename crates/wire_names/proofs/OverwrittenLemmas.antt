-- What a buffer is in which octets were overwritten.
use Rattle.std.proofs.Common.{◌≡◌, ℕ, ◌+◌, ◌-◌, ◌≤◌, List, ◌++◌, length, take, drop, sym, ap, ◌∙◌, arith}
use Rattle.std.proofs.lemmas.List.{length-append, length-take-le, length-drop, append_assoc, take_at, drop_at, drop-drop, take-take, take-append-le}
use Rattle.wire_names.specs.Written.{IsOverwritten}

module _ (old new : List ℕ) (at : ℕ) (octets : List ℕ) (next : ℕ) (o : IsOverwritten old new at octets next) where
  at_within : at ≤ length old
  at_within = let next_is = o.next_is in let within = o.within in omega arith

  front_length : length (take at old ++ octets) ≡ next
  front_length =
      let next_is = o.next_is in
      let front = length-take-le at old at_within in
      let both = length-append (take at old) octets in
      omega arith

  -- the buffer stays as long as it was
  pub length_stays : length new ≡ length old
  length_stays =
      let within = o.within in
      let front = front_length in
      let both = length-append (take at old ++ octets) (drop next old) in
      let behind = length-drop next old in
      let whole = ap length o.new_is in
      omega arith

  -- what stands in front of the next position
  pub octets_are : take next new ≡ take at old ++ octets
  octets_are = ap (take next) o.new_is ∙ take_at (take at old ++ octets) (drop next old) next front_length

  -- what stands in front of the octets is what stood there
  pub front_stays : (n : ℕ) → n ≤ at → take n new ≡ take n old
  front_stays n h =
      let front = length-take-le at old at_within in
      ap (take n) (o.new_is ∙ append_assoc (take at old) octets (drop next old))
      ∙ take-append-le n (take at old) (octets ++ drop next old) (omega arith) ∙ take-take n at old h

  -- what stands behind them is what stood there
  pub behind_stays : (n : ℕ) → next ≤ n → drop n new ≡ drop n old
  behind_stays n h =
      let place : next + (n - next) ≡ n = omega arith in
      let seam : drop next new ≡ drop next old = ap (drop next) o.new_is ∙ drop_at (take at old ++ octets) (drop next old) next front_length in
      ap (λ (k : ℕ). drop k new) (sym place) ∙ sym (drop-drop (n - next) next new) ∙ ap (drop (n - next)) seam
      ∙ drop-drop (n - next) next old ∙ ap (λ (k : ℕ). drop k old) place

-- octets overwritten, and more behind them, are overwritten as one
pub IsOverwritten-then : (a b c : List ℕ) (at n m : ℕ) (x y : List ℕ) → IsOverwritten a b at x n → IsOverwritten b c n y m → IsOverwritten a c at (x ++ y) m
IsOverwritten-then a b c at n m x y p q =
    let p_next = p.next_is in
    let q_next = q.next_is in
    let q_within = q.within in
    let whole = length_stays a b at x n p in
    let both = length-append x y in
    let front = ap (λ (t : List ℕ). (t ++ y) ++ drop m b) (octets_are a b at x n p) in
    let rest = ap (λ (t : List ℕ). ((take at a ++ x) ++ y) ++ t) (behind_stays a b at x n p m (omega arith)) in
    record {
      next_is = omega arith;
      within = omega arith;
      new_is = q.new_is ∙ front ∙ rest ∙ ap (λ (t : List ℕ). t ++ drop m a) (append_assoc (take at a) x y);
    }
