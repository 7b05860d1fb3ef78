-- A name twice, one behind the other.
use Rattle.std.proofs.Common.{◌≡◌, ℕ, ◌+◌, ◌-◌, ◌<◌, ◌≤◌, Bool, true, false, ◌&&◌, nat_le, List, [], ◌∷◌, ◌++◌, length, take, map, All, Option, None, Some, refl, sym, ap, ◌∙◌, subst, arith, if◌then◌else◌}
use Rattle.std.specs.Prelude.{option_and_then}
use Rattle.std.specs.Char.{to_ascii_lowercase}
use Rattle.std.proofs.lemmas.Bool.Decides.{nat_tests}
use Rattle.std.proofs.lemmas.List.{append-nil, length-append, length-map, take_at}
use Rattle.std.proofs.lemmas.List.Elements.{All-append}
use Rattle.dns_name.specs.Gather.{front_of}
use Rattle.dns_name.specs.Name.{Name, wire_of, IsLabel, IsName, fold_name, is_under, name_in}
use Rattle.dns_name.proofs.GatherLemmas.{wire_of-front}
use Rattle.dns_name.proofs.LabelLemmas.{wire_of-fold}
use Rattle.dns_name.proofs.LawLemmas.{ending_from_under}
use Rattle.dns_name.proofs.ReadLemmas.{labels_read-wire_of}
use Rattle.dns_name.proofs.StoredLemmas.{front_wire}

-- octets of a name on the wire: at least the closing zero
pub wire_some : (name : Name) → 0 < length (wire_of name)
wire_some name = subst (λ (os : List ℕ). 0 < length os) (front_wire name) (omega (arith, length-append (front_of name) (0 ∷ [])))

-- these octets without the closing zero, and the same in full, are the name twice
pub wire_twice : (name : Name) (octets : List ℕ) → octets ≡ wire_of name → take (length octets - 1) octets ++ octets ≡ wire_of (name ++ name)
wire_twice name octets e =
    let whole : octets ≡ front_of name ++ 0 ∷ [] = e ∙ sym (front_wire name) in
    let long : length (front_of name) ≡ length (front_of name ++ 0 ∷ []) - 1 = omega (arith, length-append (front_of name) (0 ∷ [])) in
    let front : take (length octets - 1) octets ≡ front_of name =
    ap (λ (os : List ℕ). take (length os - 1) os) whole ∙ take_at (front_of name) (0 ∷ []) (length (front_of name ++ 0 ∷ []) - 1) long in
    (λ i. front i ++ e i) ∙ sym (wire_of-front name name)

-- what the labels of a name are read as
abbrev pub fitting : Option (Name × List ℕ) → Option Name
fitting read = option_and_then (λ (r : Name × List ℕ). if nat_le (length (wire_of r.0)) 255 then Some r.0 else None) read

-- they are read as the name twice where that isn't too long
pub twice_read : (name : Name) (octets : List ℕ) → IsName name → octets ≡ wire_of (name ++ name)
    → name_in octets ≡ (if nat_le (length (wire_of (name ++ name))) 255 then Some (name ++ name) else None)
twice_read name octets is e =
    let labels : All IsLabel (name ++ name) = All-append IsLabel name name is.labels is.labels in
    ap name_in (e ∙ sym (append-nil (wire_of (name ++ name)))) ∙ ap fitting (labels_read-wire_of (name ++ name) [] labels)

-- a name in lower case has as many octets
fold_long : (name : Name) → All IsLabel name → length (wire_of (fold_name name)) ≡ length (wire_of name)
fold_long name labels = ap length (wire_of-fold name labels) ∙ length-map (wire_of name) to_ascii_lowercase

-- a name has at least the octets of one that it is under
under_long : (name other : Name) → IsName name → All IsLabel other → is_under name other ≡ true → length (wire_of other) ≤ 255
under_long name other is labels under =
    let ending = ending_from_under name other under in
    let own = fold_long name is.labels in
    let others = fold_long other labels in
    let parts : length (wire_of (fold_name name)) ≡ length (front_of ending.0) + length (wire_of (fold_name other)) =
    ap (λ (n : Name). length (wire_of n)) ending.1 ∙ ap length (wire_of-front ending.0 (fold_name other)) ∙ length-append (front_of ending.0) (wire_of (fold_name other)) in
    let short = is.short in
    omega (arith, own, others, parts, short)

too_long : (n : ℕ) → n ≤ 255 → nat_le n 255 ≡ false → ⊥
too_long n short long = grind (arith, nat_tests)

none_under : (b : Bool) (name other : Name) → IsName name → All IsLabel other → nat_le (length (wire_of other)) 255 ≡ false → is_under name other ≡ b → b ≡ false
none_under false name other is labels long e = refl
none_under true name other is labels long e = absurd (too_long (length (wire_of other)) (under_long name other is labels e) long)

-- no name is under one that is too long
pub none_under_twice : (name apex : Name) → IsName name → IsName apex → nat_le (length (wire_of (apex ++ apex))) 255 ≡ false → is_under name (apex ++ apex) ≡ false
none_under_twice name apex is lawful long = none_under (is_under name (apex ++ apex)) name (apex ++ apex) is (All-append IsLabel apex apex lawful.labels lawful.labels) long refl

-- where there is none, it doesn't fit
pub none_fits : (b : Bool) (name : Name) → None ≡ (if b then Some name else None) → b ≡ false
none_fits false name e = refl
none_fits true name e = cc

pub false_behind : (a b : Bool) → b ≡ false → (a && b) ≡ false
false_behind true b e = e
false_behind false b e = refl
