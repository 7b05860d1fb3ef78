-- Data that stand in a message with the names in them in full are read as they stand.
use Rattle.std.proofs.Common.{◌≡◌, ◌==◌, eq-eqb, ℕ, zero, suc, ◌+◌, ◌≤◌, Bool, true, false, cond, nat_le, All, List, [], ◌∷◌, ◌++◌, length, take, drop, Option, Some, None, Ok, refl, sym, ap, subst, ◌∙◌, arith, option_map, option_and_then, length-append, append_assoc}
use Rattle.std.proofs.lemmas.Bool.Decides.{nat_tests, Decides-eqb}
use Rattle.std.proofs.lemmas.List.{length-take-le, take-append-drop, take_at, drop_at, drop-drop}
use Rattle.std.proofs.lemmas.List.Elements.{All-nil, All-head, All-tail}
use Rattle.std.specs.List.{flat_map}
use Rattle.dns_name.specs.Name.{Name, wire_of, name_in, IsName}
use Rattle.dns_name.proofs.LawLemmas.{name_in-is_present}
use Rattle.dns_rdata.specs.declared.layout.Layout.{Layout}
use Rattle.dns_rdata.specs.declared.layout.Layout.TheVariants.{Fields, Strings, Opaque}
use Rattle.dns_rdata.specs.Data.{names_then, parts, data_by, data_of}
use Rattle.dns_rdata.specs.Layout.{layout_of, names_in}
use Rattle.dns_rdata.proofs.NameLemmas.{map_some, and_then_some, cond_some}
use Rattle.wire_names.specs.NameAt.{name_at}
use Rattle.wire_names.specs.Table.{IsEntry}
use Rattle.wire_names.proofs.GrammarLemmas.{computed_spelt}
use Rattle.wire_names.proofs.WrittenLemmas.{written_spelt}
use Rattle.dns_message.specs.Expanded.{names_at, octets_from, expanded_by, expanded_data}
use Rattle.dns_message.specs.Message.{Entry}
use Rattle.dns_message.proofs.KeepsLemmas.{lawful_names}

-- a name in full is read
full_read : (whole front rest : List ℕ) (name : Name) → whole ≡ front ++ (wire_of name ++ rest) → IsName name → name_at whole (length front) ≡ Ok (name, length front + length (wire_of name))
full_read whole front rest name is lawful =
    ap (λ (o : List ℕ). name_at o (length front)) is
    ∙ computed_spelt (front ++ (wire_of name ++ rest)) (length front) (length front + length (wire_of name)) name (written_spelt false front [] rest name (All-nil (IsEntry front)) lawful) lawful.short

no_more_names : (msg : List ℕ) (n : ℕ) → names_at zero msg n ≡ Some ([], n)
unfolding names_at
no_more_names msg n = refl

one_name : (count : ℕ) (msg : List ℕ) (n next end : ℕ) (name : Name) (names : List Name) → name_at msg n ≡ Ok (name, next) → names_at count msg next ≡ Some (names, end)
    → names_at (suc count) msg n ≡ Some (name ∷ names, end)
unfolding names_at
one_name count msg n next end name names first others =
    rw (first, names_at) (ap (option_map (λ rest. (name ∷ rest.0, rest.1))) others)

-- and so are names one after another
full_names_read : (names : List Name) → All IsName names → (whole front rest : List ℕ) → whole ≡ front ++ (flat_map wire_of names ++ rest)
    → names_at (length names) whole (length front) ≡ Some (names, length front + length (flat_map wire_of names))
full_names_read [] all whole front rest is = no_more_names whole (length front) ∙ ap (λ (k : ℕ). Some ([], k)) (omega arith)
full_names_read (name ∷ names) all whole front rest is =
    let own = wire_of name in
    let more = flat_map wire_of names in
    let split : whole ≡ front ++ (own ++ (more ++ rest)) = is ∙ ap (λ (o : List ℕ). front ++ o) (append_assoc own more rest) in
    let deep : whole ≡ (front ++ own) ++ (more ++ rest) = split ∙ sym (append_assoc front own (more ++ rest)) in
    let here = full_read whole front (more ++ rest) name split (All-head IsName name names all) in
    let back = full_names_read names (All-tail IsName name names all) whole (front ++ own) rest deep in
    let place : length (front ++ own) ≡ length front + length own = length-append front own in
    one_name (length names) whole (length front) (length front + length own) (length (front ++ own) + length more) name names here
    (ap (λ (k : ℕ). names_at (length names) whole k) (sym place) ∙ back)
    ∙ ap (λ (k : ℕ). Some (name ∷ names, k)) (omega (arith, place, length-append own more))

-- octets begin with so many names in full, and so many octets stand behind these
record IsNames (names : List Name) (count back : ℕ) (octets : List ℕ) : Type 0 where
  count_is : length names ≡ count
  all_is : flat_map wire_of names ++ drop (length (flat_map wire_of names)) octets ≡ octets
  back_is : length (drop (length (flat_map wire_of names)) octets) ≡ back

IsNames-more : (name : Name) (names : List Name) (count back : ℕ) (octets : List ℕ) → octets ≡ wire_of name ++ drop (length (wire_of name)) octets
    → IsNames names count back (drop (length (wire_of name)) octets) → IsNames (name ∷ names) (suc count) back octets
IsNames-more name names count back octets e h =
    let own = wire_of name in
    let rest = flat_map wire_of names in
    let behind_all : drop (length (own ++ rest)) octets ≡ drop (length rest) (drop (length own) octets) =
    ap (λ (n : ℕ). drop n octets) (length-append own rest) ∙ sym (drop-drop (length rest) (length own) octets) in
    record {
      count_is = ap suc h.count_is;
      all_is = ap (λ (t : List ℕ). (own ++ rest) ++ t) behind_all ∙ append_assoc own rest _ ∙ ap (λ (t : List ℕ). own ++ t) h.all_is ∙ sym e;
      back_is = ap length behind_all ∙ h.back_is;
    }

abbrev names_by : ℕ → List ℕ → Option Name → List Name
names_by count octets found = elim found as (λ _. List Name) [ None ↦ [] | Some name ↦ name ∷ names_in count (drop (length (wire_of name)) octets) ]

IsNames-found : (count back : ℕ) (octets own : List ℕ) → names_then count back octets ≡ Some own → IsNames (names_in count octets) count back octets
IsNames-found zero back octets own e =
    let test = cond_some (length octets == back) (Some octets) own e in
    record { count_is = refl; all_is = refl; back_is = (Decides-eqb (length octets) back).0 test.0 }
IsNames-found (suc count) back octets own e =
    let name = and_then_some _ (name_in octets) own e in
    let rest = map_some _ (names_then count back (drop (length (wire_of name.0)) octets)) own name.2 in
    let has = name_in-is_present octets name.0 name.1 in
    let others = IsNames-found count back (drop (length (wire_of name.0)) octets) rest.0 rest.1 in
    let more = IsNames-more name.0 (names_in count (drop (length (wire_of name.0)) octets)) count back octets has.1 others in
    subst (λ (found : Option Name). IsNames (names_by count octets found) (suc count) back octets) (sym name.1) more

-- octets that stand in others
stands_from : (whole front own rest : List ℕ) (n size : ℕ) → n ≡ length front → size ≡ length own → whole ≡ front ++ (own ++ rest) → octets_from whole n size ≡ own
stands_from whole front own rest n size at len is =
    ap (λ (t : List ℕ). take size (drop n t)) is ∙ ap (take size) (drop_at front (own ++ rest) n (sym at)) ∙ take_at own rest size (sym len)

-- so data that lie by a layout are expanded to what stands there
fields_read : (first names back : ℕ) (compressed : Bool) (rdata own : List ℕ) → parts first names back rdata ≡ Some own → (whole front rest : List ℕ) → whole ≡ front ++ (rdata ++ rest)
    → expanded_by (Fields first names back compressed) whole (length front) (length rdata) ≡ Some rdata
fields_read first names back compressed rdata own e whole front rest is =
    let test = cond_some (nat_le first (length rdata)) _ own e in
    let long : first ≤ length rdata = let t = test.0 in grind (arith, nat_tests) in
    let found = map_some _ (names_then names back (drop first rdata)) own test.1 in
    let split = IsNames-found names back (drop first rdata) found.0 found.1 in
    let n = length front in
    let head = take first rdata in
    let all = names_in names (drop first rdata) in
    let middle = flat_map wire_of all in
    let tail = drop (length middle) (drop first rdata) in
    let len : length head ≡ first = length-take-le first rdata long in
    let joined : head ++ (middle ++ tail) ≡ rdata = ap (λ (t : List ℕ). head ++ t) split.all_is ∙ take-append-drop first rdata in
    let lies : whole ≡ front ++ (head ++ (middle ++ (tail ++ rest))) = is ∙ ap (λ (t : List ℕ). front ++ (t ++ rest)) (sym joined) ∙ simp append_assoc in
    let place : length (front ++ head) ≡ n + first = length-append front head ∙ ap (λ (k : ℕ). n + k) len in
    let there : whole ≡ (front ++ head) ++ (middle ++ (tail ++ rest)) = lies ∙ sym (append_assoc front head (middle ++ (tail ++ rest))) in
    let read : names_at names whole (n + first) ≡ Some (all, n + first + length middle) =
    ap (λ (k : ℕ). names_at k whole (n + first)) (sym split.count_is)
    ∙ ap (λ (k : ℕ). names_at (length all) whole k) (sym place)
    ∙ full_names_read all (lawful_names names (drop first rdata)) whole (front ++ head) (tail ++ rest) there
    ∙ ap (λ (k : ℕ). Some (all, k + length middle)) place in
    let front_is : octets_from whole n first ≡ head = stands_from whole front head (middle ++ (tail ++ rest)) n first refl (sym len) lies in
    let deep : whole ≡ ((front ++ head) ++ middle) ++ (tail ++ rest) = there ∙ sym (append_assoc (front ++ head) middle (tail ++ rest)) in
    let behind : n + first + length middle ≡ length ((front ++ head) ++ middle) = omega (arith, length-append (front ++ head) middle, place) in
    let back_is : octets_from whole (n + first + length middle) back ≡ tail = stands_from whole ((front ++ head) ++ middle) tail rest (n + first + length middle) back behind (sym split.back_is) deep in
    let size : n + first + length middle + back ≡ n + length rdata =
    omega (arith, split.back_is, ap length joined, length-append head (middle ++ tail), length-append middle tail, len) in
    let ends : (n + first + length middle + back == n + length rdata) ≡ true = eq-eqb _ _ size in
    let whole_is : (octets_from whole n first ++ middle) ++ octets_from whole (n + first + length middle) back ≡ rdata =
    ap (λ (t : List ℕ). (t ++ middle) ++ octets_from whole (n + first + length middle) back) front_is
    ∙ (ap (λ (t : List ℕ). (head ++ middle) ++ t) back_is ∙ (append_assoc head middle tail ∙ joined)) in
    ap (option_and_then (λ r. cond (r.1 + back == n + length rdata) (Some ((octets_from whole n first ++ flat_map wire_of r.0) ++ octets_from whole r.1 back)) None)) read
    ∙ (ap (λ (b : Bool). cond b (Some ((octets_from whole n first ++ middle) ++ octets_from whole (n + first + length middle) back)) None) ends
    ∙ ap Some whole_is)

layout_read : (layout : Layout) (rdata own : List ℕ) → data_by layout rdata ≡ Some own → (whole front rest : List ℕ) → whole ≡ front ++ (rdata ++ rest)
    → expanded_by layout whole (length front) (length rdata) ≡ Some rdata
layout_read (Fields first names back compressed) rdata own e whole front rest is = fields_read first names back compressed rdata own e whole front rest is
layout_read Strings rdata own e whole front rest is = ap Some (stands_from whole front rdata rest (length front) (length rdata) refl refl is)
layout_read Opaque rdata own e whole front rest is = ap Some (stands_from whole front rdata rest (length front) (length rdata) refl refl is)

at_read : (o : Option Layout) (rdata own : List ℕ) → option_and_then (λ (layout : Layout). data_by layout rdata) o ≡ Some own → (whole front rest : List ℕ) → whole ≡ front ++ (rdata ++ rest)
    → elim o as (λ _. Option (List ℕ)) [ None ↦ Some (octets_from whole (length front) (length rdata)) | Some layout ↦ expanded_by layout whole (length front) (length rdata) ] ≡ Some rdata
at_read None rdata own e whole front rest is = cc
at_read (Some layout) rdata own e whole front rest is = layout_read layout rdata own e whole front rest is

pub data_read : (entry : Entry) (rdata own : List ℕ) → data_of entry.rtype rdata ≡ Some own → (whole front rest : List ℕ) → whole ≡ front ++ (rdata ++ rest) → entry.at ≡ length front
    → entry.size ≡ length rdata → expanded_data whole entry ≡ Some rdata
unfolding expanded_data data_of
data_read entry rdata own e whole front rest is at size =
    ap (λ (n : ℕ). elim (layout_of entry.rtype) as (λ _. Option (List ℕ)) [ None ↦ Some (octets_from whole n entry.size) | Some layout ↦ expanded_by layout whole n entry.size ]) at
    ∙ (ap (λ (n : ℕ). elim (layout_of entry.rtype) as (λ _. Option (List ℕ)) [ None ↦ Some (octets_from whole (length front) n) | Some layout ↦ expanded_by layout whole (length front) n ]) size
    ∙ at_read (layout_of entry.rtype) rdata own e whole front rest is)
