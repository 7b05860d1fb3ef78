use Rattle.std.proofs.Common.{◌≡◌, ℕ, ◌≤◌, ◌++◌, ◌∷◌, [], List, length, All, sym, ap, subst, ◌∙◌, arith}
use Rattle.std.proofs.lemmas.List.Elements.{All-cons}
use Rattle.dns_name.specs.Labels.{labels_in, IsWhole}
use Rattle.dns_name.specs.Name.{wire_of, IsLabel, IsName, asterisk}
use Rattle.dns_name.proofs.LabelLemmas.{IsWhole-wire_of, labels_in-wire_of}
use Rattle.dns_name.proofs.name.Name.with_asterisk.Goals as goal

-- the octets of the label and those behind it
put : (all front less none behind : List ℕ) → none ≡ [] → less ≡ none ++ 1 ∷ [] → front ≡ less ++ 42 ∷ [] → all ≡ front ++ behind → all ≡ 1 ∷ 42 ∷ behind
put all front less none behind a b d e = let first : front ≡ 1 ∷ 42 ∷ [] = cc in e ∙ ap (λ (xs : List ℕ). xs ++ behind) first

labelled : (name : List (List ℕ)) → IsName name → All IsLabel (asterisk ∷ name)
labelled name is = All-cons IsLabel asterisk name (record { some = omega arith; short = omega arith }) is.labels

whole : (all behind : List ℕ) (name : List (List ℕ)) → IsName name → behind ≡ wire_of name → length behind ≤ 253 → all ≡ 1 ∷ 42 ∷ behind → IsWhole all × (length all ≤ 255)
whole all behind name is same short e =
    let long = ap length e in
    let octets : all ≡ wire_of (asterisk ∷ name) = e ∙ ap (λ (xs : List ℕ). 1 ∷ 42 ∷ xs) same in
    (subst IsWhole (sym octets) (IsWhole-wire_of (asterisk ∷ name) (labelled name is)), omega arith)

named : (all behind : List ℕ) (name : List (List ℕ)) → IsName name → behind ≡ wire_of name → all ≡ 1 ∷ 42 ∷ behind → labels_in all ≡ asterisk ∷ name
named all behind name is same e =
    ap labels_in (e ∙ ap (λ (xs : List ℕ). 1 ∷ 42 ∷ xs) same) ∙ labels_in-wire_of (asterisk ∷ name) (labelled name is)

pub invariant_of-result : goal.invariant_of-result
invariant_of-result c = whole _ _ _ c.wire-behind.ensures.lawful c.wire-behind.ensures.octets c.if-behind-gt-MAX_BELOW_ASTERISK.false
    (put _ _ _ _ _ c.new-octets.ensures c.push.ensures.items c.push-2.ensures.items c.append.ensures)

pub returns-clause-found : goal.returns-clause-found
returns-clause-found c = named _ _ _ c.wire-behind.ensures.lawful c.wire-behind.ensures.octets
    (put _ _ _ _ _ c.new-octets.ensures c.push.ensures.items c.push-2.ensures.items c.append.ensures)
