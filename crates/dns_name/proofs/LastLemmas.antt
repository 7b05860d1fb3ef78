-- What stands for the last label: its octets stand behind the octet that closes the label in front of it.
use Rattle.std.proofs.Common.{◌≡◌, ◌≢◌, ◌+◌, ◌-◌, ◌<◌, ◌≤◌, ◌⊎◌, inl, inr, ◌∙◌, ℕ, zero, suc, List, [], ◌∷◌, ◌++◌, length, reverse, take, drop, get_or, All, false, true, ◌==◌, nat_lt, position, Some, None, refl, sym, ap, append_assoc, arith}
use Rattle.std.specs.List.{flat_map, position_or_len}
use Rattle.std.proofs.lemmas.Bool.Decides.{nat_tests}
use Rattle.std.proofs.lemmas.Grind.{flat_map-append}
use Rattle.std.proofs.lemmas.List.{length-append, append-nil, reverse-append, take_at, drop_at, get_or-append-add}
use Rattle.std.proofs.lemmas.List.Elements.{All-head, All-tail, All-same}
use Rattle.std.proofs.lemmas.List.Sums.{position_or_len_is}
use Rattle.dns_name.specs.Gather.{front_of}
use Rattle.dns_name.specs.Name.{IsLabel}
use Rattle.dns_name.specs.Stored.{stored_octet, stored_label, octets_stored, labels_stored, name_stored, IsClosed, IsLastPiece}
use Rattle.dns_name.proofs.StoredLemmas.{octets_back, labels_back, closes}

-- the last of labels, and those in front of it
record IsEnded (labels : List (List ℕ)) : Type 0 where
  pub front : List (List ℕ)
  pub last : List ℕ
  pub are : labels ≡ front ++ last ∷ []

ended : (label : List ℕ) (labels : List (List ℕ)) → IsEnded (label ∷ labels)
ended label [] = record { front = []; last = label; are = refl }
ended label (next ∷ labels) =
    let more = ended next labels in
    record { front = label ∷ more.front; last = more.last; are = ap (λ (ls : List (List ℕ)). label ∷ ls) more.are }

-- what stands for labels ends with the octet that closes the last
closed_last : (front : List (List ℕ)) (last : List ℕ) → flat_map stored_label (front ++ last ∷ []) ≡ (flat_map stored_label front ++ flat_map stored_octet last) ++ 0 ∷ []
closed_last front last =
    let both = flat_map-append stored_label front (last ∷ []) in
    let none = append-nil (stored_label last) in
    let assoc = append_assoc (flat_map stored_label front) (flat_map stored_octet last) (0 ∷ []) in
    both ∙ ap (λ (os : List ℕ). flat_map stored_label front ++ os) none ∙ sym assoc

-- no octet of a label closes it
none_closes : (label : List ℕ) (k : ℕ) → k < length (flat_map stored_octet label) → get_or (flat_map stored_octet label) k 0 ≢ 0
none_closes [] k h e = absurd (omega arith)
none_closes (zero ∷ label) zero h e = absurd (omega arith)
none_closes (zero ∷ label) (suc zero) h e = absurd (omega arith)
none_closes (zero ∷ label) (suc (suc k)) h e = none_closes label k (omega arith) e
none_closes (suc zero ∷ label) zero h e = absurd (omega arith)
none_closes (suc zero ∷ label) (suc zero) h e = absurd (omega arith)
none_closes (suc zero ∷ label) (suc (suc k)) h e = none_closes label k (omega arith) e
none_closes (suc (suc c) ∷ label) zero h e = absurd (omega arith)
none_closes (suc (suc c) ∷ label) (suc k) h e = none_closes label k (omega arith) e

-- the last label begins no later than the place
pub record IsBehind (octets labels : List ℕ) (start : ℕ) : Type 0 where
  pub front : List (List ℕ)
  pub last : List ℕ
  pub named : labels_stored octets ≡ front ++ last ∷ []
  pub all : octets ≡ labels ++ 0 ∷ []
  pub are : labels ≡ flat_map stored_label front ++ flat_map stored_octet last
  pub from : length (flat_map stored_label front) ≤ start
  pub within : start ≤ length labels

begins_by : (stored : List (List ℕ)) (octets labels : List ℕ) (last : ℕ) → octets ≡ flat_map stored_label stored → octets ≡ labels ++ last ∷ [] → IsBehind octets labels (length labels)
begins_by [] octets labels last e f =
    let none = ap length e in
    let some = ap length f in
    let size = length-append labels (last ∷ []) in
    absurd (omega arith)
begins_by (label ∷ stored) octets labels last e f =
    let end = ended label stored in
    let own = flat_map stored_label end.front ++ flat_map stored_octet end.last in
    let whole : octets ≡ own ++ 0 ∷ [] = e ∙ ap (flat_map stored_label) end.are ∙ closed_last end.front end.last in
    let sizes = ap length (sym f ∙ whole) in
    let size = length-append labels (last ∷ []) in
    let own_size = length-append own (0 ∷ []) in
    let same : length own ≡ length labels = omega arith in
    let are : labels ≡ own = sym (take_at labels (last ∷ []) (length labels) refl) ∙ ap (take (length labels)) (sym f ∙ whole) ∙ take_at own (0 ∷ []) (length labels) same in
    let parts = length-append (flat_map stored_label end.front) (flat_map stored_octet end.last) in
    record {
      front = end.front;
      last = end.last;
      named = ap labels_stored e ∙ labels_back (label ∷ stored) ∙ end.are;
      all = whole ∙ ap (λ (os : List ℕ). os ++ 0 ∷ []) (sym are);
      are = are;
      from = omega arith;
      within = omega arith;
    }

pub begins : (octets labels : List ℕ) (last : ℕ) → IsClosed octets → octets ≡ labels ++ last ∷ [] → IsBehind octets labels (length labels)
begins octets labels last closed e = begins_by (labels_stored octets) octets labels last closed e

-- in front of the last label stands the octet that closes the one before
closes_front : (front : List (List ℕ)) (behind : List ℕ) (start : ℕ) → start ≡ length (flat_map stored_label front) → 0 < start → get_or (flat_map stored_label front ++ behind) (start - 1) 0 ≡ 0
closes_front [] behind start e some = absurd (omega arith)
closes_front (label ∷ labels) behind start e some =
    let end = ended label labels in
    let own = flat_map stored_label end.front ++ flat_map stored_octet end.last in
    let whole : flat_map stored_label (label ∷ labels) ≡ own ++ 0 ∷ [] = ap (flat_map stored_label) end.are ∙ closed_last end.front end.last in
    let sizes = ap length whole in
    let size = length-append own (0 ∷ []) in
    let place : start - 1 ≡ length own + 0 = omega arith in
    ap (λ (os : List ℕ). get_or (os ++ behind) (start - 1) 0) whole
    ∙ ap (λ (os : List ℕ). get_or os (start - 1) 0) (append_assoc own (0 ∷ []) behind)
    ∙ ap (λ (i : ℕ). get_or (own ++ 0 ∷ behind) i 0) place
    ∙ get_or-append-add own (0 ∷ behind) 0 0

equal_or_less : (a b : ℕ) → a ≤ b → (b ≡ a) ⊎ (a < b)
equal_or_less zero zero h = inl refl
equal_or_less zero (suc b) h = inr (omega arith)
equal_or_less (suc a) zero h = absurd (omega arith)
equal_or_less (suc a) (suc b) h =
    elim (equal_or_less a b (omega arith)) [
      | inl e ↦ inl (ap suc e)
      | inr lt ↦ inr (omega arith)
    ]

-- an octet that closes no label is one of the last
pub goes_on : (octets labels : List ℕ) (start x : ℕ) → IsBehind octets labels start → 0 < start → x ≡ get_or labels (start - 1) 0 → x ≢ 0 → IsBehind octets labels (start - 1)
goes_on octets labels start x h some is other =
    let within = h.within in
    let from : length (flat_map stored_label h.front) ≤ start - 1 =
    elim (equal_or_less (length (flat_map stored_label h.front)) start h.from) [
      | inl e ↦ absurd (other (is ∙ ap (λ (os : List ℕ). get_or os (start - 1) 0) h.are ∙ closes_front h.front (flat_map stored_octet h.last) start e some))
      | inr lt ↦ omega arith
    ] in
    record { front = h.front; last = h.last; named = h.named; all = h.all; are = h.are; from = from; within = omega arith }

cut_at : (octets labels : List ℕ) (start : ℕ) (h : IsBehind octets labels start) → start ≡ length (flat_map stored_label h.front) → IsLastPiece octets (take start labels) (drop start labels)
cut_at octets labels start h e =
    let before = flat_map stored_label h.front in
    let own = flat_map stored_octet h.last in
    let front : take start labels ≡ before = ap (take start) h.are ∙ take_at before own start (sym e) in
    let piece : drop start labels ≡ own = ap (drop start) h.are ∙ drop_at before own start (sym e) in
    let read : labels_stored (take start labels) ≡ h.front = ap labels_stored front ∙ labels_back h.front in
    let last : octets_stored (drop start labels) ≡ h.last = ap octets_stored piece ∙ octets_back h.last in
    let whole : octets ≡ before ++ own ++ 0 ∷ [] = h.all ∙ ap (λ (os : List ℕ). os ++ 0 ∷ []) h.are in
    let all = ap length whole in
    let outer = length-append (before ++ own) (0 ∷ []) in
    let inner = length-append before own in
    let size = ap length front in
    record {
      labels = h.named ∙ ap (λ (ls : List (List ℕ)). ls ++ h.last ∷ []) (sym read) ∙ ap (λ (l : List ℕ). labels_stored (take start labels) ++ l ∷ []) (sym last);
      octets_are = whole ∙ ap (λ (os : List ℕ). os ++ own ++ 0 ∷ []) (sym front) ∙ ap (λ (os : List ℕ). take start labels ++ os ++ 0 ∷ []) (sym piece);
      closed = front ∙ ap (flat_map stored_label) (sym read);
      shorter = omega arith;
    }

begins_there : (octets labels : List ℕ) (start : ℕ) (h : IsBehind octets labels start) → (0 < start → get_or labels (start - 1) 0 ≡ 0) → start ≡ length (flat_map stored_label h.front)
begins_there octets labels start h closes =
    let before = flat_map stored_label h.front in
    let own = flat_map stored_octet h.last in
    elim (equal_or_less (length before) start h.from) [
      | inl e ↦ e
      | inr lt ↦ (
          let within = h.within in
          let size = ap length h.are in
          let both = length-append before own in
          let k = start - 1 - length before in
          let place : start - 1 ≡ length before + k = omega arith in
          let there : get_or own k 0 ≡ 0 =
          sym (get_or-append-add before own k 0) ∙ ap (λ (i : ℕ). get_or (before ++ own) i 0) (sym place)
          ∙ ap (λ (os : List ℕ). get_or os (start - 1) 0) (sym h.are) ∙ closes (omega arith)
          in
          absurd (none_closes h.last k (omega arith) there))
    ]

-- behind an octet that closes a label, or behind none, the last label begins
pub cut : (octets labels : List ℕ) (start : ℕ) → IsBehind octets labels start → (0 < start → get_or labels (start - 1) 0 ≡ 0) → IsLastPiece octets (take start labels) (drop start labels)
cut octets labels start h closes = cut_at octets labels start h (begins_there octets labels start h closes)

-- the name is the label that is stored last, and the name of what is in front of it
pub name_at : (octets front piece : List ℕ) → IsLastPiece octets front piece → name_stored octets ≡ octets_stored piece ∷ name_stored front
name_at octets front piece last = ap reverse last.labels ∙ reverse-append (labels_stored front) (octets_stored piece ∷ [])

-- of lawful labels that one is short, and the others are lawful
pub lawful_first : (octets front piece : List ℕ) → IsLastPiece octets front piece → All IsLabel (name_stored octets) → length (octets_stored piece) < 64
lawful_first octets front piece last h =
    let label = All-head IsLabel (octets_stored piece) (name_stored front) (All-same IsLabel _ _ (sym (name_at octets front piece last)) h) in
    label.short

pub lawful_front : (octets front piece : List ℕ) → IsLastPiece octets front piece → All IsLabel (name_stored octets) → All IsLabel (name_stored front)
lawful_front octets front piece last h = All-tail IsLabel (octets_stored piece) (name_stored front) (All-same IsLabel _ _ (sym (name_at octets front piece last)) h)

-- the octets of the name begin with that label
pub front_at : (octets front piece : List ℕ) → IsLastPiece octets front piece → front_of (name_stored octets) ≡ (length (octets_stored piece) ∷ octets_stored piece) ++ front_of (name_stored front)
front_at octets front piece last = ap front_of (name_at octets front piece last)

-- the label behind what was put before it, and the labels that are left
pub put_next : (own before label put all : List ℕ) → own ≡ before ++ label → before ++ (label ++ put) ≡ all → own ++ put ≡ all
put_next own before label put all e f = ap (λ (os : List ℕ). os ++ put) e ∙ append_assoc before label put ∙ f

-- where all of them fit, the next does
pub room_for : (before left label put all : List ℕ) (most : ℕ) → before ++ left ≡ all → left ≡ label ++ put → length all ≤ most → length before + length label ≤ most
room_for before left label put all most e f short =
    let size = ap length e in
    let both = length-append before left in
    let parts = ap length f in
    let inner = length-append label put in
    omega arith

closing_test : (octet : ℕ) → octet ≡ 0 → (octet == 0) ≡ true
closing_test octet e = grind (arith, nat_tests)

other_test : (octet : ℕ) → octet ≢ 0 → (octet == 0) ≡ false
other_test zero h = absurd (h refl)
other_test (suc octet) h = grind (arith, nat_tests)

lt_true : (m n : ℕ) → m < n → nat_lt m n ≡ true
lt_true m n h = grind (arith, nat_tests)

lt_false : (m n : ℕ) → n ≤ m → nat_lt m n ≡ false
lt_false m n h = grind (arith, nat_tests)

place_at : (octets : List ℕ) (at : ℕ) → at ≤ length octets → ((k : ℕ) → k < at → get_or octets k 0 ≢ 0) → (at < length octets → (get_or octets at 0 == 0) ≡ true) → position_or_len closes octets ≡ at
place_at octets at within none found = position_or_len_is closes octets at 0 within (λ k h. other_test (get_or octets k 0) (none k h)) found

-- the first octet that closes a label, where none before it does
pub first_at : (octets : List ℕ) (at x : ℕ) → at < length octets → x ≡ get_or octets at 0 → x ≡ 0 → ((k : ℕ) → k < at → get_or octets k 0 ≢ 0) → Some at ≡ position (λ octet. octet == 0) octets
first_at octets at x within is zero_is none =
    let place = place_at octets at (omega arith) none (λ (h : at < length octets). closing_test (get_or octets at 0) (sym is ∙ zero_is)) in
    let less = lt_true at (length octets) within in
    sym (rw (place, less) refl)

pub none_at : (octets : List ℕ) (at : ℕ) → length octets ≤ at → at ≤ length octets → ((k : ℕ) → k < at → get_or octets k 0 ≢ 0) → None ≡ position (λ octet. octet == 0) octets
none_at octets at behind within none =
    let place = place_at octets at within none (λ (h : at < length octets). absurd (omega arith)) in
    let not_less = lt_false at (length octets) behind in
    sym (rw (place, not_less) refl)
