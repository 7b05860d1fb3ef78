-- The walk over the names in data, and data in lower case.
use Rattle.std.proofs.Common.{◌≡◌, ℕ, zero, suc, ◌+◌, ◌-◌, ◌<◌, ◌≤◌, Bool, true, false, ◌==◌, cond, nat_le, List, ◌++◌, append_assoc, length, map, take, drop, Option, Some, None, IsSome, refl, sym, ap, ◌∙◌, arith}
use Rattle.std.specs.Char.{to_ascii_lowercase}
use Rattle.std.specs.Option.{is_some, option_map, option_and_then}
use Rattle.std.proofs.lemmas.Bool.Decides.{nat_tests, Decides-eqb}
use Rattle.std.proofs.lemmas.List.{length-append, length-drop, map-append, drop-drop}
use Rattle.std.proofs.Math.Seq.{take-length, take-append-add, drop-append-add}
use Rattle.dns_name.specs.Name.{wire_of, fold_name, name_in}
use Rattle.dns_name.proofs.LawLemmas.{name_in-is_present}
use Rattle.dns_name.proofs.LabelLemmas.{wire_of-fold}
use Rattle.dns_rdata.specs.declared.layout.Layout.{Layout}
use Rattle.dns_rdata.specs.declared.layout.Layout.TheVariants.{Fields}
use Rattle.dns_rdata.specs.Layout.{layout_of}
use Rattle.dns_rdata.specs.Data.{names_then, parts, data_by, data_of}
use Rattle.dns_rdata.proofs.NameLemmas.{map_some, and_then_some, cond_some}

-- whether so many names stand in front of so many octets
abbrev pub is_present : ℕ → ℕ → List ℕ → Bool
is_present names back octets = is_some (names_then names back octets)

is_some-map : {A B : Type 0} (f : A → B) (o : Option A) → is_some (option_map f o) ≡ is_some o
is_some-map f None = refl
is_some-map f (Some x) = refl

pub parts_short : (front names back : ℕ) (octets : List ℕ) → length octets < front → is_some (parts front names back octets) ≡ false
parts_short front names back octets h = let f : nat_le front (length octets) ≡ false = grind (arith, nat_tests) in rw f refl

pub parts_start : (front names back : ℕ) (octets : List ℕ) → front ≤ length octets → is_present names back (drop front octets) ≡ is_some (parts front names back octets)
parts_start front names back octets h =
    let t : nat_le front (length octets) ≡ true = grind (arith, nat_tests) in
    rw t (sym (is_some-map (λ (rest : List ℕ). take front octets ++ rest) (names_then names back (drop front octets))))

-- a name is read
pub stands_more : (names i back : ℕ) (rest : List ℕ) (name : List (List ℕ)) → i < names → name_in rest ≡ Some name → is_present (names - i) back rest ≡ is_present (names - (i + 1)) back (drop (length (wire_of name)) rest)
stands_more names i back rest name h e =
    let left : names - i ≡ suc (names - (i + 1)) = omega arith in
    rw (left, e) (is_some-map (λ (behind : List ℕ). wire_of (fold_name name) ++ behind) (names_then (names - (i + 1)) back (drop (length (wire_of name)) rest)))

-- one step of the walk, by what its calls say
pub stands_step : (rest : List ℕ) (names i back len : ℕ) (name : List (List ℕ)) (all : Bool) → is_present (names - i) back rest ≡ all → i < names → Some name ≡ name_in rest → len ≡ length (wire_of name) → is_present (names - (i + 1)) back (take (length rest - len) (drop len rest)) ≡ all
stands_step rest names i back len name all so_far h read size =
    let more = stands_more names i back rest name h (sym read) in
    let left = length-drop len rest in
    let after : take (length rest - len) (drop len rest) ≡ drop len rest = let full = take-length (drop len rest) in cc in
    rw (after, size) (sym more ∙ so_far)

-- no name stands where one is wanted
pub stands_refused : (names i back : ℕ) (rest : List ℕ) → i < names → name_in rest ≡ None → is_present (names - i) back rest ≡ false
stands_refused names i back rest h e =
    let left : names - i ≡ suc (names - (i + 1)) = omega arith in
    rw (left, e) refl

is_some-cond : (b : Bool) (octets : List ℕ) → is_some (cond b (Some octets) None) ≡ b
is_some-cond true octets = refl
is_some-cond false octets = refl

-- behind the names
pub stands_end : (names i back : ℕ) (rest : List ℕ) → names ≤ i → is_present (names - i) back rest ≡ (length rest == back)
stands_end names i back rest h =
    let left : names - i ≡ 0 = omega arith in
    rw left (is_some-cond (length rest == back) rest)

-- octets that lie so are the same in lower case up to the octets behind
pub record IsLowered (back : ℕ) (octets own : List ℕ) : Type 0 where
  pub long : back ≤ length octets
  pub is : own ≡ map to_ascii_lowercase (take (length octets - back) octets) ++ drop (length octets - back) octets

lowered_names : (names back : ℕ) (octets own : List ℕ) → names_then names back octets ≡ Some own → IsLowered back octets own
lowered_names zero back octets own e =
    let test = cond_some (length octets == back) (Some octets) own e in
    let same : octets ≡ own = cc in
    let size = (Decides-eqb (length octets) back).0 test.0 in
    let none : length octets - back ≡ 0 = omega arith in
    record { long = omega arith; is = rw none (sym same) }
lowered_names (suc names) back octets own e =
    let name = and_then_some _ (name_in octets) own e in
    let wire = wire_of name.0 in
    let behind = drop (length wire) octets in
    let rest = map_some _ (names_then names back behind) own name.2 in
    let has = name_in-is_present octets name.0 name.1 in
    let more = lowered_names names back behind rest.0 rest.1 in
    let whole : octets ≡ wire ++ behind = has.1 in
    let size : length octets ≡ length wire + length behind = ap length whole ∙ length-append wire behind in
    let j = length behind - back in
    let long = more.long in
    let place : length octets - back ≡ length wire + j = omega arith in
    let front : take (length wire + j) octets ≡ wire ++ take j behind = ap (take (length wire + j)) whole ∙ take-append-add wire behind j in
    let end : drop (length wire + j) octets ≡ drop j behind = ap (drop (length wire + j)) whole ∙ drop-append-add wire behind j in
    let folded = wire_of-fold name.0 has.0.labels in
    let split = map-append to_ascii_lowercase wire (take j behind) in
    let assoc = append_assoc (map to_ascii_lowercase wire) (map to_ascii_lowercase (take j behind)) (drop j behind) in
    let is = more.is in
    let all = rest.2 in
    record { long = omega arith; is = rw (place, front, end) cc }

-- and so are octets behind others
pub record IsBetween (front back : ℕ) (octets own : List ℕ) : Type 0 where
  pub long : front + back ≤ length octets
  pub is : own ≡ take front octets ++ map to_ascii_lowercase (take (length octets - back - front) (drop front octets)) ++ drop (length octets - back) octets

pub lowered_parts : (front names back : ℕ) (octets own : List ℕ) → parts front names back octets ≡ Some own → IsBetween front back octets own
lowered_parts front names back octets own e =
    let test = cond_some (nat_le front (length octets)) _ own e in
    let enough : front ≤ length octets = let t = test.0 in grind (arith, nat_tests) in
    let behind = drop front octets in
    let rest = map_some _ (names_then names back behind) own test.1 in
    let more = lowered_names names back behind rest.0 rest.1 in
    let size = length-drop front octets in
    let long = more.long in
    let place : length behind - back ≡ length octets - back - front = omega arith in
    let twice = drop-drop (length octets - back - front) front octets in
    let to : front + (length octets - back - front) ≡ length octets - back = omega arith in
    let is = more.is in
    let all = rest.2 in
    let assoc = append_assoc (take front octets) (map to_ascii_lowercase (take (length octets - back - front) behind)) (drop (length octets - back) octets) in
    record { long = omega arith; is = cc }

some_from : {A : Type 0} (o : Option A) → IsSome o → (x : A) × (o ≡ Some x)
some_from None h = cc
some_from (Some x) h = (x, refl)

-- the data of a type with fields
pub record HasFields (rtype front back : ℕ) (octets own : List ℕ) : Type 0 where
  pub is : data_of rtype octets ≡ Some own
  pub between : IsBetween front back octets own

pub fields_of : (rtype front names back : ℕ) (compressed : Bool) (octets : List ℕ) → Some (Fields front names back compressed) ≡ layout_of rtype → IsSome (data_of rtype octets) → (own : List ℕ) × HasFields rtype front back octets own
unfolding data_of
fields_of rtype front names back compressed octets e some =
    let is : data_of rtype octets ≡ parts front names back octets = ap (option_and_then (λ (layout : Layout). data_by layout octets)) (sym e) in
    let own = some_from (data_of rtype octets) some in
    (own.0, record { is = own.1; between = lowered_parts front names back octets own.0 (sym is ∙ own.1) })
