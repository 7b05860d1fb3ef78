-- A name that differs from the one before it in its first label alone.
use Rattle.std.proofs.Common.{◌≡◌, Bool, true, false, not, eqb, true≢false, ◌+◌, ◌-◌, ◌<◌, ◌≤◌, ◌∙◌, ℕ, zero, suc, List, [], ◌∷◌, ◌++◌, length, reverse, take, drop, get_or, refl, sym, ap, subst, append_assoc, arith}
use Rattle.std.specs.List.{flat_map, refill}
use Rattle.std.specs.Cmp.Lexicographic.{pointwise}
use Rattle.std.proofs.lemmas.Bool.Decides.{Decides-eqb}
use Rattle.std.proofs.lemmas.Slice.Eq.{slice_eq-Decides}
use Rattle.std.proofs.lemmas.Grind.{flat_map-append}
use Rattle.std.proofs.lemmas.List.{length-append, append_cancel_left, drop_at, drop_more, reverse-append, take-append-drop, take_at}
use borrow.Rule.Slice.PartMut.{post_of}
use Rattle.dns_name.specs.Labels.{labels_in, IsWhole}
use Rattle.dns_name.specs.Name.{wire_of}
use Rattle.dns_name.specs.Stored.{stored_octet, stored_label, octets_stored, labels_stored, name_stored, IsClosed, IsPlainFront, IsStored}
use Rattle.dns_name.proofs.LabelLemmas.{IsWhole-wire_of, labels_in-wire_of, wire_of-labels_in}
use Rattle.dns_name.proofs.LastLemmas.{IsBehind, cut, name_at}
use Rattle.dns_name.proofs.PieceLemmas.{closed_of, refill_whole}
use Rattle.dns_name.proofs.StoredLemmas.{IsWire, labels_front}

-- an octet above the one that stands in front of another stands for itself
itself_cons : (octet : ℕ) (octets : List ℕ) → 1 < octet → octets_stored octets ≡ octets → octets_stored (octet ∷ octets) ≡ octet ∷ octets
itself_cons zero octets h e = absurd (omega arith)
itself_cons (suc zero) octets h e = absurd (omega arith)
itself_cons (suc (suc c)) octets h e = ap (λ (os : List ℕ). suc (suc c) ∷ os) e

pub itself_more : (labels : List ℕ) (start octet : ℕ) → 0 < start → start ≤ length labels → octet ≡ get_or labels (start - 1) 0 → 1 < octet → octets_stored (drop start labels) ≡ drop start labels → octets_stored (drop (start - 1) labels) ≡ drop (start - 1) labels
itself_more labels start octet some within is above e =
    let place : start - 1 + 1 ≡ start = omega arith in
    let more : drop (start - 1) labels ≡ octet ∷ drop start labels =
    drop_more labels (start - 1) 0 (omega arith) ∙ ap (λ (o : ℕ). o ∷ drop (start - 1 + 1) labels) (sym is) ∙ ap (λ (k : ℕ). octet ∷ drop k labels) place
    in
    ap octets_stored more ∙ itself_cons octet (drop start labels) above e ∙ sym more

pub plain_at : (octets labels : List ℕ) (start : ℕ) → IsBehind octets labels start → (0 < start → get_or labels (start - 1) 0 ≡ 0) → octets_stored (drop start labels) ≡ drop start labels → IsPlainFront octets (take start labels)
plain_at octets labels start h closes e = record {
  piece = drop start labels;
  last = cut octets labels start h closes;
  itself = e;
}

-- a label takes at least as many octets as it has
label_within : (label : List ℕ) → length label ≤ length (flat_map stored_octet label)
label_within [] = omega arith
label_within (zero ∷ label) = let rest = label_within label in omega arith
label_within (suc zero ∷ label) = let rest = label_within label in omega arith
label_within (suc (suc c) ∷ label) = let rest = label_within label in omega arith

-- the last of labels, which is the first on the wire
last_of : List ℕ → List (List ℕ) → List ℕ
last_of label [] = label
last_of label (next ∷ labels) = last_of next labels

-- what stands for labels takes more octets than the last of them has
stored_size : (label : List ℕ) (labels : List (List ℕ)) → length (flat_map stored_label (label ∷ labels)) ≡ length (flat_map stored_octet label) + 1 + length (flat_map stored_label labels)
stored_size label labels =
    let own = length-append (flat_map stored_octet label) (0 ∷ []) in
    let both = length-append (stored_label label) (flat_map stored_label labels) in
    omega arith

last_within : (label : List ℕ) (labels : List (List ℕ)) → length (last_of label labels) < length (flat_map stored_label (label ∷ labels))
unfolding last_of
last_within label [] =
    let size = stored_size label [] in
    let within = label_within label in
    omega arith
last_within label (next ∷ labels) =
    let size = stored_size label (next ∷ labels) in
    let within = last_within next labels in
    omega arith

-- its length is the first octet on the wire
first_size : (front : List (List ℕ)) (label : List ℕ) (labels : List (List ℕ)) → get_or (wire_of (reverse (front ++ label ∷ labels))) 0 0 ≡ length (last_of label labels)
unfolding last_of
first_size front label [] = ap (λ (name : List (List ℕ)). get_or (wire_of name) 0 0) (reverse-append front (label ∷ []))
first_size front label (next ∷ labels) =
    ap (λ (ls : List (List ℕ)). get_or (wire_of (reverse ls)) 0 0) (sym (append_assoc front (label ∷ []) (next ∷ labels)))
    ∙ first_size (front ++ label ∷ []) next labels

-- labels are one where the last of them leaves no octet to others
pub record IsOne (labels : List (List ℕ)) (size : ℕ) : Type 0 where
  pub label : List ℕ
  pub is : labels ≡ label ∷ []
  pub size_is : length label ≡ size

one_label : (labels front : List (List ℕ)) (size : ℕ) → length (flat_map stored_label labels) ≡ size + 1 → get_or (wire_of (reverse (front ++ labels))) 0 0 ≡ size → IsOne labels size
unfolding last_of
one_label [] front size all first = absurd (omega arith)
one_label (label ∷ []) front size all first = record {
  label = label;
  is = refl;
  size_is = sym (first_size front label []) ∙ first;
}
one_label (label ∷ next ∷ labels) front size all first =
    let head = first_size front label (next ∷ labels) in
    let parts = stored_size label (next ∷ labels) in
    let within = last_within next labels in
    absurd (omega arith)

-- octets that begin as others do in front of their last label, and are as many, stand for one label more than those in front
pub record IsBeside (before front : List ℕ) (size : ℕ) : Type 0 where
  pub label : List ℕ
  pub size_is : length label ≡ size
  pub named : name_stored before ≡ label ∷ name_stored front

pub beside : (before octets front own : List ℕ) (p : IsPlainFront octets front) → IsClosed before → IsWhole own → labels_in own ≡ name_stored before → length before ≡ length octets → take (length front) before ≡ front → get_or own 0 0 ≡ length p.piece → IsBeside before front (length p.piece)
beside before octets front own p closed whole name as_many begun first =
    let behind = drop (length front) before in
    let ahead = labels_stored front in
    let left = labels_stored behind in
    let cut : before ≡ front ++ behind = sym (take-append-drop (length front) before) ∙ ap (λ (os : List ℕ). os ++ behind) begun in
    let labels : labels_stored before ≡ ahead ++ left =
    ap labels_stored cut ∙ ap (λ (os : List ℕ). labels_stored (os ++ behind)) p.last.closed ∙ labels_front ahead behind
    in
    let all_stand : before ≡ flat_map stored_label (ahead ++ left) = closed ∙ ap (flat_map stored_label) labels in
    let ahead_stands : flat_map stored_label (ahead ++ left) ≡ front ++ flat_map stored_label left =
    flat_map-append stored_label ahead left ∙ ap (λ (os : List ℕ). os ++ flat_map stored_label left) (sym p.last.closed)
    in
    let whole_stands : before ≡ front ++ flat_map stored_label left = all_stand ∙ ahead_stands in
    let same : front ++ behind ≡ front ++ flat_map stored_label left = sym cut ∙ whole_stands in
    let closed_behind : behind ≡ flat_map stored_label left = append_cancel_left front behind (flat_map stored_label left) same in
    let all = ap length p.last.octets_are in
    let outer = length-append (front ++ p.piece) (0 ∷ []) in
    let inner = length-append front p.piece in
    let mine = ap length cut in
    let parts = length-append front behind in
    let sizes = ap length closed_behind in
    let wire : own ≡ wire_of (reverse (ahead ++ left)) = sym (wire_of-labels_in own whole) ∙ ap wire_of (name ∙ ap reverse labels) in
    let one = one_label left ahead (length p.piece) (omega arith) (ap (λ (os : List ℕ). get_or os 0 0) (sym wire) ∙ first) in
    record {
      label = one.label;
      size_is = one.size_is;
      named = ap reverse labels ∙ ap (λ (ls : List (List ℕ)). reverse (ahead ++ ls)) one.is ∙ reverse-append ahead (one.label ∷ []);
    }

pub named_beside : (octets front : List ℕ) (p : IsPlainFront octets front) → name_stored octets ≡ p.piece ∷ name_stored front
named_beside octets front p = name_at octets front p.piece p.last ∙ ap (λ (l : List ℕ). l ∷ name_stored front) p.itself

-- how many octets that label has
pub piece_size : (octets front : List ℕ) (p : IsPlainFront octets front) → length octets - length front - 1 ≡ length p.piece
piece_size octets front p =
    let all = ap length p.last.octets_are in
    let outer = length-append (front ++ p.piece) (0 ∷ []) in
    let inner = length-append front p.piece in
    omega arith

-- and they are that label
pub piece_is : (octets front : List ℕ) (size : ℕ) (p : IsPlainFront octets front) → size ≡ length p.piece → take size (drop (length front) octets) ≡ p.piece
piece_is octets front size p e =
    let whole : octets ≡ front ++ (p.piece ++ 0 ∷ []) = p.last.octets_are ∙ append_assoc front p.piece (0 ∷ []) in
    ap (λ (os : List ℕ). take size (drop (length front) os)) whole
    ∙ ap (take size) (drop_at front (p.piece ++ 0 ∷ []) (length front) refl)
    ∙ take_at p.piece (0 ∷ []) size (sym e)

-- that label written over the one that the name begins with makes the other name
written : (label piece : List ℕ) (rest own : List ℕ) (size : ℕ) → own ≡ length label ∷ label ++ rest → length label ≡ size → length piece ≡ size → take 1 own ++ (piece ++ post_of 1 size own) ≡ length piece ∷ piece ++ rest
written label piece rest own size e same long =
    let first : length label ≡ length piece = same ∙ sym long in
    ap (λ (os : List ℕ). take 1 os ++ (piece ++ post_of 1 size os)) e
    ∙ ap (λ (os : List ℕ). length label ∷ (piece ++ os)) (drop_at label rest size same)
    ∙ ap (λ (n : ℕ). n ∷ (piece ++ rest)) first

pub set_first : (before octets front own : List ℕ) (size : ℕ) (p : IsPlainFront octets front) → IsBeside before front (length p.piece) → IsStored octets → IsWhole own → labels_in own ≡ name_stored before → size ≡ length p.piece → IsWire (refill (length own) own (take 1 own ++ (p.piece ++ post_of 1 size own))) (name_stored octets)
set_first before octets front own size p b stored whole name e =
    let rest = wire_of (name_stored front) in
    let was : own ≡ length b.label ∷ b.label ++ rest = sym (wire_of-labels_in own whole) ∙ ap wire_of (name ∙ b.named) in
    let put = take 1 own ++ (p.piece ++ post_of 1 size own) in
    let is : put ≡ length p.piece ∷ p.piece ++ rest = written b.label p.piece rest own size was (b.size_is ∙ sym e) (sym e) in
    let sizes = ap length is in
    let old = ap length was in
    let both = length-append p.piece rest in
    let others = length-append b.label rest in
    let same = b.size_is in
    let full : refill (length own) own put ≡ put = refill_whole own put (omega arith) in
    let wire : refill (length own) own put ≡ wire_of (name_stored octets) = full ∙ is ∙ ap wire_of (sym (named_beside octets front p)) in
    let long = ap length wire in
    let short = stored.name.short in
    record {
      whole = subst IsWhole (sym wire) (IsWhole-wire_of (name_stored octets) stored.name.labels);
      short = omega arith;
      named = ap labels_in wire ∙ labels_in-wire_of (name_stored octets) stored.name.labels;
    }

-- they are written from where they stand
pub set_by : (before octets front own lent part : List ℕ) (size many : ℕ) (p : IsPlainFront octets front) → IsBeside before front (length p.piece) → IsStored octets → IsWhole own → labels_in own ≡ name_stored before → size ≡ length p.piece → many ≡ length p.piece → lent ≡ own → part ≡ take many (drop (length front) octets) → IsWire (refill (length own) own (take 1 lent ++ (part ++ post_of 1 size lent))) (name_stored octets)
set_by before octets front own lent part size many p b stored whole name e f same taken =
    let piece : part ≡ p.piece = taken ∙ piece_is octets front many p f in
    let put : take 1 lent ++ (part ++ post_of 1 size lent) ≡ take 1 own ++ (p.piece ++ post_of 1 size own) =
    ap (λ (os : List ℕ). take 1 os ++ (part ++ post_of 1 size os)) same ∙ ap (λ (os : List ℕ). take 1 own ++ (os ++ post_of 1 size own)) piece
    in
    subst (λ (os : List ℕ). IsWire (refill (length own) own os) (name_stored octets)) (sym put) (set_first before octets front own size p b stored whole name e)

same_test : (b : Bool) → false ≡ not b → b ≡ true
same_test true e = refl
same_test false e = absurd (true≢false (sym e))

-- what was looked at of both
pub found : (before octets front own lent : List ℕ) (first : ℕ) (p : IsPlainFront octets front) → IsStored before → IsWhole own → labels_in own ≡ name_stored before → length before ≡ length octets → false ≡ not (pointwise eqb (take (length front) before) front) → lent ≡ own → first ≡ get_or lent 0 0 → first ≡ length octets - length front - 1 → IsBeside before front (length p.piece)
found before octets front own lent first p stored whole name as_many test same read size =
    let begun = (slice_eq-Decides Decides-eqb (take (length front) before) front (pointwise eqb (take (length front) before) front) refl).0 (same_test (pointwise eqb (take (length front) before) front) test) in
    let octet : get_or own 0 0 ≡ length p.piece = ap (λ (os : List ℕ). get_or os 0 0) (sym same) ∙ sym read ∙ size ∙ piece_size octets front p in
    beside before octets front own p (closed_of before stored) whole name as_many begun octet

-- the label and its length are within the name
pub label_room : (before octets front own lent : List ℕ) (p : IsPlainFront octets front) → IsBeside before front (length p.piece) → IsWhole own → labels_in own ≡ name_stored before → lent ≡ own → length octets - length front - 1 + 1 ≤ length lent
label_room before octets front own lent p b whole name same =
    let was : own ≡ length b.label ∷ b.label ++ wire_of (name_stored front) = sym (wire_of-labels_in own whole) ∙ ap wire_of (name ∙ b.named) in
    let old = ap length was in
    let others = length-append b.label (wire_of (name_stored front)) in
    let size = b.size_is in
    let piece = piece_size octets front p in
    let sizes = ap length same in
    omega arith
