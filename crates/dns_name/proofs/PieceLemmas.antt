-- How many octets the labels take on the wire, with their lengths, that octets stand for: without an escape as many as are stored.
use Rattle.std.proofs.Common.{◌≡◌, ◌<◌, refl, sym, ap, subst, ◌∙◌, ℕ, zero, suc, Bool, true, false, ◌||◌, List, [], ◌∷◌, ◌++◌, length, reverse, append_assoc, true≢false, arith}
use Rattle.std.specs.Prelude.{◌==◌}
use Rattle.std.specs.List.{flat_map, list_any, refill}
use Rattle.std.proofs.lemmas.List.{length-append, drop_all, append-nil, take_all, reverse-reverse}
use Rattle.std.proofs.lemmas.List.Folds.{list_any-append}
use Rattle.dns_name.specs.Gather.{front_of}
use Rattle.dns_name.specs.Stored.{stored_octet, stored_label, octets_stored, labels_stored, name_stored, IsClosed, IsPlain, IsStored}
use Rattle.dns_name.proofs.StoredLemmas.{front_reverse, front_room, octets_back}

neither : (b c : Bool) → b || c ≡ false → (b ≡ false) × (c ≡ false)
neither true c e = absurd (true≢false e)
neither false c e = (refl, e)

-- a piece stands for itself
pub plain_piece : (piece : List ℕ) → IsPlain piece → octets_stored piece ≡ piece
plain_piece [] e = refl
plain_piece (zero ∷ piece) e = ap (λ (octets : List ℕ). 0 ∷ octets) (plain_piece piece (neither (0 == 1) (list_any (λ octet. octet == 1) piece) e).1)
plain_piece (suc zero ∷ piece) e = absurd (true≢false e)
plain_piece (suc (suc c) ∷ piece) e = ap (λ (octets : List ℕ). suc (suc c) ∷ octets) (plain_piece piece (neither (suc (suc c) == 1) (list_any (λ octet. octet == 1) piece) e).1)

-- neither their first piece nor the rest has an escape
pub plain_parts : (octets piece rest : List ℕ) → octets ≡ piece ++ 0 ∷ rest → IsPlain octets → IsPlain piece × IsPlain rest
plain_parts octets piece rest e plain =
    let test : ℕ → Bool = λ octet. octet == 1 in
    let both = list_any-append test piece (0 ∷ rest) in
    let all = neither (list_any test piece) (list_any test (0 ∷ rest)) (sym both ∙ ap (list_any test) (sym e) ∙ plain) in
    (all.0, (neither (0 == 1) (list_any test rest) all.1).1)

sized : (labels : List (List ℕ)) → IsPlain (flat_map stored_label labels) → length (front_of (reverse labels)) ≡ length (flat_map stored_label labels)
sized [] plain = refl
sized (label ∷ labels) plain =
    let own = flat_map stored_octet label in
    let rest = flat_map stored_label labels in
    let whole : flat_map stored_label (label ∷ labels) ≡ own ++ 0 ∷ rest = append_assoc own (0 ∷ []) rest in
    let parts = plain_parts (flat_map stored_label (label ∷ labels)) own rest whole plain in
    let same : length own ≡ length label = ap length (sym (plain_piece own parts.0) ∙ octets_back label) in
    let more = sized labels parts.1 in
    let front : length (front_of (reverse (label ∷ labels))) ≡ length (front_of (reverse labels) ++ length label ∷ label) = ap length (front_reverse label labels) in
    let both = length-append (front_of (reverse labels)) (length label ∷ label) in
    let all : length (flat_map stored_label (label ∷ labels)) ≡ length (own ++ 0 ∷ rest) = ap length whole in
    let split = length-append own (0 ∷ rest) in
    omega arith

-- the labels on the wire are as many octets as are stored
pub plain_size : (octets : List ℕ) → IsClosed octets → IsPlain octets → length (front_of (reverse (labels_stored octets))) ≡ length octets
plain_size octets closed plain = sized (labels_stored octets) (subst IsPlain closed plain) ∙ ap length (sym closed)

-- what is stored stands for its labels
pub closed_of : (octets : List ℕ) → IsStored octets → IsClosed octets
closed_of octets h =
    h.is
    ∙ ap (λ (name : List (List ℕ)). flat_map stored_label (reverse name)) (sym h.folded)
    ∙ ap (flat_map stored_label) (reverse-reverse (labels_stored octets))

-- a name's labels leave room for the closing octet
pub room_of : (octets : List ℕ) → IsStored octets → length (front_of (name_stored octets)) < 255
room_of octets stored = front_room (front_of (name_stored octets)) [] (name_stored octets) stored.name refl refl

-- octets that are written over as many leave none of those
pub refill_whole : (octets own : List ℕ) → length own ≡ length octets → refill (length octets) octets own ≡ own
refill_whole octets own e =
    let none = drop_all (length own) octets (omega arith) in
    let nil = append-nil own in
    let all = take_all (length octets) own (omega arith) in
    cc
