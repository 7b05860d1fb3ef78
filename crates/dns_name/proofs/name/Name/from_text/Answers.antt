use Rattle.std.proofs.Common.{◌≡◌, ℕ, ◌==◌, List, [], ◌∷◌, ◌++◌, length, true, false, sym, ap, ◌∙◌}
use Rattle.std.proofs.lemmas.Bool.Decides.{Decides-eqb}
use Rattle.std.specs.Cmp.Lexicographic.{other_text}
use Rattle.std.specs.Str.{bytes_eq}
use Rattle.dns_name.specs.Text.{lawful}
use Rattle.dns_name.proofs.TextLemmas.{IsAbsolute-from, name_of_text-relative}
use Rattle.dns_name.proofs.name.Name.from_text.Goals as goal

some_octet : (octets : List ℕ) → false ≡ (length octets == 0) → octets ≡ [] → ⊥
some_octet octets e nil = let none = (Decides-eqb (length octets) 0).1 (ap length nil) in cc

no_octet : (octets : List ℕ) → true ≡ (length octets == 0) → length octets ≡ 0
no_octet octets e = (Decides-eqb (length octets) 0).0 (sym e)

octet_left : (octets : List ℕ) → false ≡ (length octets == 0) → length octets ≡ 0 → ⊥
octet_left octets e none = let test = (Decides-eqb (length octets) 0).1 none in cc

other_than : (text lent dot : List ℕ) → lent ≡ dot → false ≡ bytes_eq text lent → text ≡ dot → ⊥
other_than text lent dot same e is = other_text text lent e (is ∙ sym same)

no_at : (text lent at : List ℕ) → lent ≡ at → false ≡ bytes_eq text lent → bytes_eq text at ≡ false
no_at text lent at same e = ap (bytes_eq text) (sym same) ∙ sym e

pub returns-then-is_empty-2 : goal.returns-then-is_empty-2
returns-then-is_empty-2 c =
    let all = c.in-Some.ensures in
    let absolute = IsAbsolute-from c.args.text.now c.args.origin.now c.in-Some.gathered (no_at c.args.text.now c.as_slice.result.now (64 ∷ []) c.as_slice.ensures c.if-eq.ensures) (some_octet c.args.text.now c.if-is_empty.ensures)
    (other_than c.args.text.now c.as_slice-2.result.now (46 ∷ []) c.as_slice-2.ensures c.if-eq-2.ensures) all (no_octet c.in-Some.gathered.label.items c.if-is_empty-2.ensures) in
    c.named.ensures all.labels absolute.is
    ∙ ap (λ (name : List (List ℕ)). lawful (all.labels ++ name)) c.root-then-is_empty-2.ensures
    ∙ sym absolute.name

pub returns : goal.returns
returns c =
    let all = c.in-Some.ensures in
    c.named-2.ensures (all.labels ++ all.label ∷ []) (c.close.ensures all.labels all.label all.is)
    ∙ sym (name_of_text-relative c.args.text.now c.args.origin.now c.in-Some.gathered (no_at c.args.text.now c.as_slice.result.now (64 ∷ []) c.as_slice.ensures c.if-eq.ensures) (some_octet c.args.text.now c.if-is_empty.ensures)
    (other_than c.args.text.now c.as_slice-2.result.now (46 ∷ []) c.as_slice-2.ensures c.if-eq-2.ensures) all (octet_left c.in-Some.gathered.label.items c.if-is_empty-2.ensures))
