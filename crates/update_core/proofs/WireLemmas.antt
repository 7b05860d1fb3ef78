-- The octets of names: which name they are of, and their order in lower case.
use Rattle.std.proofs.Common.{◌≡◌, ℕ, ◌+◌, ◌≤◌, List, [], ◌∷◌, ◌++◌, length, map, take, drop, refl, sym, ap, ◌∙◌, arith}
use Rattle.std.specs.Char.{to_ascii_lowercase}
use Rattle.std.specs.Cmp.Lexicographic.{slice_cmp}
use Rattle.std.specs.Ordering.{nat_cmp, ordering_then}
use Rattle.std.proofs.Math.Seq.{drop-append_seam, take-append_seam}
use Rattle.std.proofs.lemmas.Cmp.{nat_list_cmp_total, nat_cmp_total, tied_itself}
use Rattle.std.proofs.lemmas.List.{take-append-drop, length-append, map-append}
use Rattle.dns_name.specs.Name.{Name, wire_of}
use Rattle.dns_name.proofs.ReadLemmas.{wire_some}

-- lists that begin with as many elements are equal in both parts
front_once : (xs ys rest others : List ℕ) → length xs ≡ length ys → xs ++ rest ≡ ys ++ others → xs ≡ ys
front_once xs ys rest others len e =
    sym (take-append_seam xs rest) ∙ (λ i. take (len i) (e i)) ∙ take-append_seam ys others

back_once : (xs ys rest others : List ℕ) → length xs ≡ length ys → xs ++ rest ≡ ys ++ others → rest ≡ others
back_once xs ys rest others len e =
    sym (drop-append_seam xs rest) ∙ (λ i. drop (len i) (e i)) ∙ drop-append_seam ys others

alone : (label : List ℕ) (name : Name) → 0 ∷ [] ≡ length label ∷ label ++ wire_of name → ⊥
alone label name e =
    let some = wire_some name in
    let both = length-append label (wire_of name) in
    let one : List ℕ = 0 ∷ [] in
    let len : length one ≡ length (length label ∷ label ++ wire_of name) = ap length e in
    absurd (omega (arith, len, both, some))

-- octets are those of one name
pub wire_of_once : (name other : Name) → wire_of name ≡ wire_of other → name ≡ other
wire_of_once [] [] e = refl
wire_of_once [] (label ∷ other) e = absurd (alone label other e)
wire_of_once (label ∷ name) [] e = absurd (alone label name (sym e))
wire_of_once (label ∷ name) (own ∷ other) e =
    let len : length label ≡ length own = cc in
    let both : label ++ wire_of name ≡ own ++ wire_of other = cc in
    let first = front_once label own (wire_of name) (wire_of other) len both in
    let rest = wire_of_once name other (back_once label own (wire_of name) (wire_of other) len both) in
    cc

-- what lists begin with alike doesn't tell their order
cmp_behind : (xs rest others : List ℕ) → slice_cmp nat_cmp (xs ++ rest) (xs ++ others) ≡ slice_cmp nat_cmp rest others
cmp_behind [] rest others = refl
cmp_behind (x ∷ xs) rest others = ap (λ o. ordering_then o (slice_cmp nat_cmp (xs ++ rest) (xs ++ others))) (tied_itself nat_cmp_total x) ∙ cmp_behind xs rest others

-- nor in lower case
pub lower_behind : (n : ℕ) (xs ys some same rest others : List ℕ) → some ≡ take n xs → rest ≡ drop n xs → same ≡ take n ys → others ≡ drop n ys → some ≡ same
    → slice_cmp nat_cmp (map to_ascii_lowercase xs) (map to_ascii_lowercase ys) ≡ slice_cmp nat_cmp (map to_ascii_lowercase rest) (map to_ascii_lowercase others)
lower_behind n xs ys some same rest others front back fronts backs alike =
    let own : some ++ rest ≡ xs = (λ i. front i ++ back i) ∙ take-append-drop n xs in
    let other : some ++ others ≡ ys = (λ i. (alike ∙ fronts) i ++ backs i) ∙ take-append-drop n ys in
    let parts = λ (zs : List ℕ). map-append to_ascii_lowercase some zs in
    sym (λ i. slice_cmp nat_cmp (map to_ascii_lowercase (own i)) (map to_ascii_lowercase (other i)))
    ∙ (λ i. slice_cmp nat_cmp (parts rest i) (parts others i))
    ∙ cmp_behind (map to_ascii_lowercase some) (map to_ascii_lowercase rest) (map to_ascii_lowercase others)
