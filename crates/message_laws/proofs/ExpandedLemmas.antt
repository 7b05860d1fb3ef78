-- The data of a record that is written is read again, the names in it in full.
use Rattle.std.proofs.Common.{◌≡◌, ◌==◌, eq-eqb, ℕ, zero, suc, ◌+◌, ◌≤◌, Bool, true, cond, nat_le, All, List, [], ◌∷◌, ◌++◌, length, take, drop, map, Option, Some, None, Ok, refl, sym, ap, subst, ◌∙◌, arith, option_map, option_and_then, length-append, append_assoc}
use Rattle.std.proofs.lemmas.Bool.Decides.{nat_tests, Decides-eqb}
use Rattle.std.proofs.lemmas.List.{length-take-le, take-append-drop, take_at, drop_at, drop-drop}
use Rattle.std.proofs.lemmas.List.Elements.{All-head, All-tail}
use Rattle.std.specs.Int.{to_be_bytes, w16}
use Rattle.std.specs.List.{flat_map}
use Rattle.dns_name.specs.Name.{wire_of, name_in, IsName}
use Rattle.dns_name.proofs.LawLemmas.{name_in-is_present}
use Rattle.dns_rdata.specs.declared.layout.Layout.{Layout}
use Rattle.dns_rdata.specs.declared.layout.Layout.TheVariants.{Fields, Strings, Opaque}
use Rattle.dns_rdata.specs.Data.{names_then, parts, data_by, data_of}
use Rattle.dns_rdata.specs.Layout.{layout_of, names_in}
use Rattle.dns_rdata.specs.Record.{Record}
use Rattle.dns_rdata.proofs.NameLemmas.{map_some, and_then_some, cond_some}
use Rattle.wire_names.specs.NameAt.{name_at}
use Rattle.wire_names.specs.Table.{Table}
use Rattle.wire_names.specs.Written.{written, table_after}
use Rattle.message_laws.specs.Again.{IsRecord, behind, data_at, data_place, entry_at, entries_at}
use Rattle.dns_message.specs.Encoded.{IsTrueOf}
use Rattle.dns_message.specs.Encoding.{these, named, before, each}
use Rattle.dns_message.specs.Expanded.{names_at, octets_from, expanded_by, expanded_data}
use Rattle.dns_message.specs.Octets.{names_octets, octets_by, data_laid, data_octets, fixed_octets, record_octets}
use Rattle.message_laws.proofs.AgainLemmas.{name_again, record_parts}
use Rattle.dns_message.proofs.KeepsLemmas.{Stands, Stands-behind, Keeps-these, Keeps-named, Keeps-record, lawful_names}
use Rattle.dns_message.proofs.TrueLemmas.{IsTrueOf-more}

no_more_names : (msg : List ℕ) (n : ℕ) → names_at zero msg n ≡ Some ([], n)
unfolding names_at
no_more_names msg n = refl

one_name : (count : ℕ) (msg : List ℕ) (n next end : ℕ) (name : List (List ℕ)) (names : List (List (List ℕ))) → name_at msg n ≡ Ok (name, next) → names_at count msg next ≡ Some (names, end) → names_at (suc count) msg n ≡ Some (name ∷ names, end)
unfolding names_at
one_name count msg n next end name names first others =
    rw (first, names_at) (ap (option_map (λ rest. (name ∷ rest.0, rest.1))) others)

-- names are read one after another where they were written so
names_again : (compress : Bool) (names : List (List (List ℕ))) → All IsName names → (whole front rest : List ℕ) (table : Table) (n : ℕ) → Stands whole front ((each (named compress) names table n).0 ++ rest) table n → names_at (length names) whole n ≡ Some (names, n + length (each (named compress) names table n).0)
unfolding each before named these
names_again compress [] all whole front rest table n s = no_more_names whole n ∙ ap (λ (k : ℕ). Some ([], k)) (omega arith)
names_again compress (name ∷ names) all whole front rest table n s =
    let lawful : IsName name = All-head IsName name names all in
    let own = written compress table name in
    let after = table_after compress table n name in
    let more = (each (named compress) names after (n + length own)).0 in
    let split : whole ≡ front ++ (own ++ (more ++ rest)) = s.is ∙ ap (λ t. front ++ t) (append_assoc own more rest) in
    let here = name_again compress front (more ++ rest) whole table n name s.at split s.holds lawful in
    let there : Stands whole (front ++ own) (more ++ rest) after (n + length own) =
    Stands-behind (named compress name) whole front (more ++ rest) table n (Keeps-named compress name lawful) (record { at = s.at; is = split; holds = s.holds }) in
    let back = names_again compress names (All-tail IsName name names all) whole (front ++ own) rest after (n + length own) there in
    one_name (length names) whole n (n + length own) (n + length own + length more) name names here back
    ∙ ap (λ (k : ℕ). Some (name ∷ names, k)) (omega (arith, length-append own more))

-- octets begin with so many names in full, and so many octets stand behind these
record IsNames (names : List (List (List ℕ))) (count back : ℕ) (octets : List ℕ) : Type 0 where
  count_is : length names ≡ count
  all_is : flat_map wire_of names ++ drop (length (flat_map wire_of names)) octets ≡ octets
  back_is : length (drop (length (flat_map wire_of names)) octets) ≡ back

IsNames-more : (name : List (List ℕ)) (names : List (List (List ℕ))) (count back : ℕ) (octets : List ℕ) → octets ≡ wire_of name ++ drop (length (wire_of name)) octets → IsNames names count back (drop (length (wire_of name)) octets) → IsNames (name ∷ names) (suc count) back octets
IsNames-more name names count back octets e h =
    let own = wire_of name in
    let rest = flat_map wire_of names in
    let behind_all : drop (length (own ++ rest)) octets ≡ drop (length rest) (drop (length own) octets) =
    ap (λ (n : ℕ). drop n octets) (length-append own rest) ∙ sym (drop-drop (length rest) (length own) octets) in
    record {
      count_is = ap suc h.count_is;
      all_is = ap (λ (t : List ℕ). (own ++ rest) ++ t) behind_all ∙ append_assoc own rest _ ∙ ap (λ (t : List ℕ). own ++ t) h.all_is ∙ sym e;
      back_is = ap length behind_all ∙ h.back_is;
    }

abbrev names_by : ℕ → List ℕ → Option (List (List ℕ)) → List (List (List ℕ))
names_by count octets found = elim found as (λ _. List (List (List ℕ))) [ None ↦ [] | Some name ↦ name ∷ names_in count (drop (length (wire_of name)) octets) ]

IsNames-found : (count back : ℕ) (octets own : List ℕ) → names_then count back octets ≡ Some own → IsNames (names_in count octets) count back octets
IsNames-found zero back octets own e =
    let test = cond_some (length octets == back) (Some octets) own e in
    record { count_is = refl; all_is = refl; back_is = (Decides-eqb (length octets) back).0 test.0 }
IsNames-found (suc count) back octets own e =
    let name = and_then_some _ (name_in octets) own e in
    let rest = map_some _ (names_then count back (drop (length (wire_of name.0)) octets)) own name.2 in
    let has = name_in-is_present octets name.0 name.1 in
    let others = IsNames-found count back (drop (length (wire_of name.0)) octets) rest.0 rest.1 in
    let more = IsNames-more name.0 (names_in count (drop (length (wire_of name.0)) octets)) count back octets has.1 others in
    subst (λ (found : Option (List (List ℕ))). IsNames (names_by count octets found) (suc count) back octets) (sym name.1) more

-- octets that stand in others
stands_from : (front own rest whole : List ℕ) (n size : ℕ) → n ≡ length front → size ≡ length own → whole ≡ front ++ (own ++ rest) → octets_from whole n size ≡ own
stands_from front own rest whole n size at len is =
    ap (λ (t : List ℕ). take size (drop n t)) is ∙ ap (take size) (drop_at front (own ++ rest) n (sym at)) ∙ take_at own rest size (sym len)

-- data that lies by a layout is expanded to what was written
fields_again : (first names back : ℕ) (compressed : Bool) (rdata own : List ℕ) → parts first names back rdata ≡ Some own → (whole front rest : List ℕ) (table : Table) (n : ℕ) → Stands whole front ((octets_by (Fields first names back compressed) rdata table n).0 ++ rest) table n → expanded_by (Fields first names back compressed) whole n (length (octets_by (Fields first names back compressed) rdata table n).0) ≡ Some rdata
unfolding before these names_octets
fields_again first names back compressed rdata own e whole front rest table n s =
    let test = cond_some (nat_le first (length rdata)) _ own e in
    let long : first ≤ length rdata = let t = test.0 in grind (arith, nat_tests) in
    let found = map_some _ (names_then names back (drop first rdata)) own test.1 in
    let split = IsNames-found names back (drop first rdata) found.0 found.1 in
    let head = take first rdata in
    let all = names_in names (drop first rdata) in
    let tail = drop (length (flat_map wire_of all)) (drop first rdata) in
    let middle = (each (named compressed) all table (n + length head)).0 in
    let len : length head ≡ first = length-take-le first rdata long in
    let at = s.at in
    let lies : whole ≡ front ++ (head ++ (middle ++ (tail ++ rest))) = s.is ∙ simp append_assoc in
    let there : Stands whole (front ++ head) (middle ++ (tail ++ rest)) table (n + length head) =
    Stands-behind (these head) whole front (middle ++ (tail ++ rest)) table n (Keeps-these head) (record { at = s.at; is = lies; holds = s.holds }) in
    let read : names_at names whole (n + first) ≡ Some (all, n + first + length middle) =
    ap (λ (k : ℕ). names_at k whole (n + first)) (sym split.count_is)
    ∙ ap (λ (k : ℕ). names_at (length all) whole (n + k)) (sym len)
    ∙ names_again compressed all (lawful_names names (drop first rdata)) whole (front ++ head) (tail ++ rest) table (n + length head) there
    ∙ ap (λ (k : ℕ). Some (all, n + k + length middle)) len in
    let front_is : octets_from whole n first ≡ head = stands_from front head (middle ++ (tail ++ rest)) whole n first s.at (sym len) lies in
    let deep : whole ≡ ((front ++ head) ++ middle) ++ (tail ++ rest) = lies ∙ sym (append_assoc front head _) ∙ sym (append_assoc (front ++ head) middle _) in
    let place : n + first + length middle ≡ length ((front ++ head) ++ middle) = omega (arith, length-append (front ++ head) middle, length-append front head) in
    let back_is : octets_from whole (n + first + length middle) back ≡ tail = stands_from ((front ++ head) ++ middle) tail rest whole _ back place (sym split.back_is) deep in
    let size : n + first + length middle + back ≡ n + length (head ++ (middle ++ tail)) = omega (arith, split.back_is, length-append head (middle ++ tail), length-append middle tail) in
    let ends : (n + first + length middle + back == n + length (head ++ (middle ++ tail))) ≡ true = eq-eqb _ _ size in
    let joined : (head ++ flat_map wire_of all) ++ tail ≡ rdata = append_assoc head (flat_map wire_of all) tail ∙ ap (λ (t : List ℕ). head ++ t) split.all_is ∙ take-append-drop first rdata in
    let whole_is : (octets_from whole n first ++ flat_map wire_of all) ++ octets_from whole (n + first + length middle) back ≡ rdata =
    ap (λ (t : List ℕ). (t ++ flat_map wire_of all) ++ octets_from whole (n + first + length middle) back) front_is
    ∙ ap (λ (t : List ℕ). (head ++ flat_map wire_of all) ++ t) back_is ∙ joined in
    ap (option_and_then (λ r. cond (r.1 + back == n + length (head ++ (middle ++ tail))) (Some ((octets_from whole n first ++ flat_map wire_of r.0) ++ octets_from whole r.1 back)) None)) read
    ∙ ap (λ (b : Bool). cond b (Some ((octets_from whole n first ++ flat_map wire_of all) ++ octets_from whole (n + first + length middle) back)) None) ends
    ∙ ap Some whole_is

layout_again : (layout : Layout) (rdata own : List ℕ) → data_by layout rdata ≡ Some own → (whole front rest : List ℕ) (table : Table) (n : ℕ) → Stands whole front ((octets_by layout rdata table n).0 ++ rest) table n → expanded_by layout whole n (length (octets_by layout rdata table n).0) ≡ Some rdata
unfolding these
layout_again (Fields first names back compressed) rdata own e whole front rest table n s = fields_again first names back compressed rdata own e whole front rest table n s
layout_again Strings rdata own e whole front rest table n s = ap Some (stands_from front rdata rest whole n (length rdata) s.at refl s.is)
layout_again Opaque rdata own e whole front rest table n s = ap Some (stands_from front rdata rest whole n (length rdata) s.at refl s.is)

at_again : (o : Option Layout) (rdata own : List ℕ) → option_and_then (λ (layout : Layout). data_by layout rdata) o ≡ Some own → (whole front rest : List ℕ) (table : Table) (n : ℕ) → Stands whole front ((data_laid o rdata table n).0 ++ rest) table n → elim o as (λ _. Option (List ℕ)) [ None ↦ Some (octets_from whole n (length (data_laid o rdata table n).0)) | Some layout ↦ expanded_by layout whole n (length (data_laid o rdata table n).0) ] ≡ Some rdata
at_again None rdata own e whole front rest table n s = cc
at_again (Some layout) rdata own e whole front rest table n s = layout_again layout rdata own e whole front rest table n s

-- a record's data stand behind its owner and ten octets
data_stands : (r : Record) (whole front rest : List ℕ) (table : Table) (n : ℕ) → IsName r.owner → Stands whole front ((record_octets r table n).0 ++ rest) table n → Stands whole ((front ++ written true table r.owner) ++ (fixed_octets r ++ to_be_bytes w16 (length (data_at r (table, n))))) (data_at r (table, n) ++ rest) (data_place r (table, n)).0 (data_place r (table, n)).1
unfolding named
data_stands r whole front rest table n lawful s =
    let owner = written true table r.owner in
    let rdata = data_at r (table, n) in
    let size = to_be_bytes w16 (length rdata) in
    let at = s.at in
    let P : ℕ → Type 0 = λ k. IsTrueOf (front ++ (named true r.owner table k).0) (named true r.owner table k).1 in
    record {
      at = omega (arith, length-append (front ++ owner) (fixed_octets r ++ size), length-append front owner);
      is = s.is ∙ ap (λ t. front ++ (t ++ rest)) (record_parts r table n) ∙ simp append_assoc;
      holds = IsTrueOf-more (front ++ owner) (fixed_octets r ++ size) _ (subst P (sym s.at) ((Keeps-named true r.owner lawful).kept front table s.holds));
    }

-- the expanded data of a record that was written is its data
pub data_again : (r : Record) (whole front rest : List ℕ) (table : Table) (n : ℕ) → IsRecord r → Stands whole front ((record_octets r table n).0 ++ rest) table n → expanded_data whole (entry_at r (table, n)) ≡ Some r.rdata
unfolding expanded_data data_octets data_of
data_again r whole front rest table n lawful s =
    at_again (layout_of r.rtype) r.rdata r.rdata lawful.form whole _ rest _ _ (data_stands r whole front rest table n lawful.owner s)

-- and so are those of records one behind another
pub records_data : (rs : List Record) (whole front rest : List ℕ) (table : Table) (n : ℕ) → All IsRecord rs → Stands whole front ((each record_octets rs table n).0 ++ rest) table n → map (expanded_data whole) (entries_at rs (table, n)) ≡ map (λ r. Some r.rdata) rs
unfolding each before entries_at
records_data [] whole front rest table n all s = refl
records_data (r ∷ rs) whole front rest table n all s =
    let lawful : IsRecord r = All-head IsRecord r rs all in
    let next = record_octets r table n in
    let others = (each record_octets rs next.1 (n + length next.0)).0 in
    let split : whole ≡ front ++ (next.0 ++ (others ++ rest)) = s.is ∙ ap (λ t. front ++ t) (append_assoc next.0 others rest) in
    let here : Stands whole front (next.0 ++ (others ++ rest)) table n = record { at = s.at; is = split; holds = s.holds } in
    let there = Stands-behind (record_octets r) whole front (others ++ rest) table n (Keeps-record r lawful.owner) here in
    let first = data_again r whole front (others ++ rest) table n lawful here in
    let back = records_data rs whole (front ++ next.0) rest next.1 (n + length next.0) (All-tail IsRecord r rs all) there in
    ap (λ (d : Option (List ℕ)). d ∷ map (expanded_data whole) (entries_at rs (behind (record_octets r) (table, n)))) first
    ∙ ap (λ (ds : List (Option (List ℕ))). Some r.rdata ∷ ds) back

-- a record that is written behind a message of which a table is true
pub data_read : (msg rest : List ℕ) (table : Table) (r : Record) → IsTrueOf msg table → IsRecord r → expanded_data (msg ++ ((record_octets r table (length msg)).0 ++ rest)) (entry_at r (table, length msg)) ≡ Some r.rdata
data_read msg rest table r true_of lawful = data_again r _ msg rest table (length msg) lawful (record { at = refl; is = refl; holds = true_of })
