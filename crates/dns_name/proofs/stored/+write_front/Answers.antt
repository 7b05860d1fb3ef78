use Rattle.std.proofs.Common.{◌≡◌, ◌+◌, ◌∙◌, ◌∷◌, ◌++◌, [], List, ℕ, length, reverse, sym, ap, arith, rules}
use Rattle.std.specs.List.{flat_map}
use Rattle.std.proofs.lemmas.List.{length-append, nil_from_length}
use Rattle.dns_name.specs.Gather.{front_of}
use Rattle.dns_name.specs.Stored.{stored_label, octets_stored, labels_stored, IsClosed, IsFirstPiece, IsPlain}
use Rattle.dns_name.proofs.PieceLemmas.{plain_piece, plain_parts}
use Rattle.dns_name.proofs.StoredLemmas.{front_at, short_first, short_rest}
use Rattle.dns_name.proofs.stored.+write_front.Goals as goal

-- a label and what is behind it take as many octets as they are
size_at : (octets piece rest : List ℕ) → IsFirstPiece octets piece rest → length octets ≡ length piece + (1 + length rest)
size_at octets piece rest first =
    let size = ap length first.octets_are in
    let both = length-append piece (0 ∷ rest) in
    omega arith

same_at : (octets piece rest : List ℕ) → IsFirstPiece octets piece rest → IsPlain octets → octets_stored piece ≡ piece
same_at octets piece rest first plain = plain_piece piece (plain_parts octets piece rest first.octets_are plain).0

-- the label behind the front of the others
laid : (front own octets piece rest : List ℕ) → IsFirstPiece octets piece rest → IsPlain octets → front ≡ front_of (reverse (labels_stored rest)) → own ≡ length piece ∷ piece → front ++ own ≡ front_of (reverse (labels_stored octets))
laid front own octets piece rest first plain e f =
    let same = same_at octets piece rest first plain in
    ap (λ (os : List ℕ). os ++ own) e
    ∙ ap (λ (os : List ℕ). front_of (reverse (labels_stored rest)) ++ os) (f ∙ ap (λ (l : List ℕ). length l ∷ l) (sym same))
    ∙ sym (front_at octets piece rest first)

nothing : (out octets : List ℕ) → IsClosed octets → labels_stored octets ≡ [] → length out ≡ length octets → out ≡ front_of (reverse (labels_stored octets))
nothing out octets closed e size =
    let none : octets ≡ [] = closed ∙ ap (flat_map stored_label) e in
    nil_from_length out (size ∙ ap length none) ∙ ap (λ (ls : List (List ℕ)). front_of (reverse ls)) (sym e)

pub split_at_mut-front-requires : goal.split_at_mut-front-requires
split_at_mut-front-requires t c = omega (arith, c.in-Some.ensures.shorter, c.requires.room)

pub write_label-requires-clause-room : goal.write_label-requires-clause-room
write_label-requires-clause-room t c = omega (arith, size_at _ _ _ c.in-Some.ensures, c.split_at_mut-front.ensures.back_len, c.requires.room)

pub write_label-requires-clause-short : goal.write_label-requires-clause-short
write_label-requires-clause-short t c =
    let same = ap length (same_at _ _ _ c.in-Some.ensures c.requires.plain) in
    omega (arith, short_first _ _ _ c.in-Some.ensures c.requires.short)

pub write_front-requires : goal.write_front-requires
write_front-requires t c =
    let first = c.in-Some.ensures in
    let shorter = first.shorter in
    (search rules, (first.closed, ((plain_parts _ _ _ first.octets_are c.requires.plain).1, (c.split_at_mut-front.ensures.front_len, short_rest _ _ _ first c.requires.short))))

pub returns-in-Some : goal.returns-in-Some
returns-in-Some t c = laid _ _ _ _ _ c.in-Some.ensures c.requires.plain c.write_front.ensures c.write_label.ensures

pub returns-in_default : goal.returns-in_default
returns-in_default t c = nothing _ _ c.requires.closed c.in_default.ensures c.requires.room
