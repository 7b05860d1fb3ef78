-- What octets of a form are: as long as what they are read from, and read again as themselves.
use Rattle.std.proofs.Common.{◌≡◌, ℕ, zero, suc, ◌<◌, ◌≤◌, true, cond, ◌&&◌, ◌==◌, nat_lt, nat_le, List, ◌++◌, length, take, drop, All, Option, Some, None, refl, sym, ap, subst, ◌∙◌, arith}
use Rattle.std.proofs.lemmas.Bool.Decides.{nat_tests}
use Rattle.std.proofs.lemmas.List.{length-append, length-drop, length-take-le}
use Rattle.std.proofs.Math.Seq.{take-append_seam, drop-append_seam}
use Rattle.dns_name.specs.Name.{wire_of, fold_name, name_in}
use Rattle.std.specs.Option.{option_and_then}
use Rattle.dns_rdata.specs.declared.layout.Layout.{Layout}
use Rattle.dns_rdata.specs.declared.layout.Layout.TheVariants.{Fields, Strings, Opaque}
use Rattle.dns_rdata.specs.Layout.{layout_of}
use Rattle.dns_rdata.specs.Data.{names_then, parts, are_strings, data_by, data_of}
use Rattle.std.proofs.lemmas.List.Elements.{All-append, All-drop, All-take}
use Rattle.dns_name.proofs.LabelLemmas.{octets_front, AreOctets-label, wire_of-fold}
use Rattle.dns_name.proofs.LawLemmas.{name_in-is_present, name_in-wire_of, fold-IsName}
use Rattle.dns_rdata.proofs.NameLemmas.{map_some, and_then_some, cond_some, fold_name-fold_name}

-- octets that a reading gives: as many as were read, which the reading gives again
pub record IsRead (reading : List ℕ → Option (List ℕ)) (octets own : List ℕ) : Type 0 where
  pub again : reading own ≡ Some own
  pub len : length own ≡ length octets

pub IsRead-names : (names back : ℕ) (octets own : List ℕ) → names_then names back octets ≡ Some own → IsRead (names_then names back) octets own
IsRead-names zero back octets own e =
    let test = cond_some (length octets == back) (Some octets) own e in
    let same : octets ≡ own = cc in
    let whole : length own == back ≡ true = cc in
    record { again = rw whole refl; len = cc }
IsRead-names (suc names) back octets own e =
    let name = and_then_some _ (name_in octets) own e in
    let rest = map_some _ (names_then names back (drop (length (wire_of name.0)) octets)) own name.2 in
    let has = name_in-is_present octets name.0 name.1 in
    let kept = fold-IsName name.0 has.0 in
    let behind = IsRead-names names back (drop (length (wire_of name.0)) octets) rest.0 rest.1 in
    let folded = fold_name name.0 in
    let reads = name_in-wire_of folded rest.0 kept.0 in
    let seam = drop-append_seam (wire_of folded) rest.0 in
    let twice = fold_name-fold_name name.0 in
    let more : names_then (suc names) back (wire_of folded ++ rest.0) ≡ Some (wire_of folded ++ rest.0) = rw (reads, seam, behind.again, twice) refl in
    let all = ap length has.1 in
    let front = length-append (wire_of name.0) (drop (length (wire_of name.0)) octets) in
    let back = length-append (wire_of folded) rest.0 in
    let same = kept.1 in
    let len : length (wire_of folded ++ rest.0) ≡ length octets = omega (arith, behind.len) in
    let is = rest.2 in
    record { again = cc; len = cc }

pub IsRead-parts : (front names back : ℕ) (octets own : List ℕ) → parts front names back octets ≡ Some own → IsRead (parts front names back) octets own
IsRead-parts front names back octets own e =
    let test = cond_some (nat_le front (length octets)) _ own e in
    let long : front ≤ length octets = let t = test.0 in grind (arith, nat_tests) in
    let rest = map_some _ (names_then names back (drop front octets)) own test.1 in
    let behind = IsRead-names names back (drop front octets) rest.0 rest.1 in
    let head = take front octets in
    let size : length head ≡ front = length-take-le front octets long in
    let sum = length-append head rest.0 in
    let left = length-drop front octets in
    let len : length (head ++ rest.0) ≡ length octets = omega (arith, behind.len) in
    let fits : nat_le front (length (head ++ rest.0)) ≡ true = grind (arith, nat_tests) in
    let before : take front (head ++ rest.0) ≡ head = let seam = take-append_seam head rest.0 in cc in
    let after : drop front (head ++ rest.0) ≡ rest.0 = let seam = drop-append_seam head rest.0 in cc in
    let more : parts front names back (head ++ rest.0) ≡ Some (head ++ rest.0) = rw (fits, before, after, behind.again) refl in
    let is = rest.2 in
    record { again = cc; len = cc }

abbrev strings : List ℕ → Option (List ℕ)
strings octets = cond (nat_lt 0 (length octets) && are_strings octets) (Some octets) None

IsRead-strings : (octets own : List ℕ) → strings octets ≡ Some own → IsRead strings octets own
IsRead-strings octets own e =
    let test = cond_some (nat_lt 0 (length octets) && are_strings octets) (Some octets) own e in
    let same : octets ≡ own = cc in
    record { again = subst (λ (os : List ℕ). strings os ≡ Some os) same (e ∙ ap Some (sym same)); len = cc }

IsRead-by : (layout : Layout) (octets own : List ℕ) → data_by layout octets ≡ Some own → IsRead (data_by layout) octets own
IsRead-by (Fields front names back compressed) octets own e = let read = IsRead-parts front names back octets own e in record { again = read.again; len = read.len }
IsRead-by Strings octets own e = let read = IsRead-strings octets own e in record { again = read.again; len = read.len }
IsRead-by Opaque octets own e = let same : octets ≡ own = cc in record { again = refl; len = ap length (sym same) }

IsRead-at : (o : Option Layout) (octets own : List ℕ) → option_and_then (λ (layout : Layout). data_by layout octets) o ≡ Some own → IsRead (λ (os : List ℕ). option_and_then (λ (layout : Layout). data_by layout os) o) octets own
IsRead-at None octets own e = cc
IsRead-at (Some layout) octets own e = let read = IsRead-by layout octets own e in record { again = read.again; len = read.len }

pub IsRead-data : (rtype : ℕ) (octets own : List ℕ) → data_of rtype octets ≡ Some own → IsRead (data_of rtype) octets own
unfolding data_of
IsRead-data rtype octets own e = let read = IsRead-at (layout_of rtype) octets own e in record { again = read.again; len = read.len }

-- data of octets below 256 is of such octets
octets_append : (xs ys : List ℕ) → All (λ octet. octet < 256) xs → All (λ octet. octet < 256) ys → All (λ octet. octet < 256) (xs ++ ys)
octets_append xs ys front back = All-append (λ octet. octet < 256) xs ys front back

octets_names : (names back : ℕ) (octets own : List ℕ) → names_then names back octets ≡ Some own → All (λ octet. octet < 256) octets → All (λ octet. octet < 256) own
octets_names zero back octets own e h =
    let test = cond_some (length octets == back) (Some octets) own e in
    let same : octets ≡ own = cc in
    rw same at h
octets_names (suc names) back octets own e h =
    let name = and_then_some _ (name_in octets) own e in
    let rest = map_some _ (names_then names back (drop (length (wire_of name.0)) octets)) own name.2 in
    let has = name_in-is_present octets name.0 name.1 in
    let front = octets_front (wire_of name.0) (drop (length (wire_of name.0)) octets) (subst (All (λ octet. octet < 256)) has.1 h) in
    let behind = octets_names names back (drop (length (wire_of name.0)) octets) rest.0 rest.1 (All-drop (λ octet. octet < 256) (length (wire_of name.0)) octets h) in
    let folded = subst (All (λ octet. octet < 256)) (sym (wire_of-fold name.0 has.0.labels)) (AreOctets-label (wire_of name.0) front) in
    subst (All (λ octet. octet < 256)) rest.2 (octets_append (wire_of (fold_name name.0)) rest.0 folded behind)

octets_by : (layout : Layout) (octets own : List ℕ) → data_by layout octets ≡ Some own → All (λ octet. octet < 256) octets → All (λ octet. octet < 256) own
octets_by (Fields front names back compressed) octets own e h =
    let test = cond_some (nat_le front (length octets)) _ own e in
    let rest = map_some _ (names_then names back (drop front octets)) own test.1 in
    let behind = octets_names names back (drop front octets) rest.0 rest.1 (All-drop (λ octet. octet < 256) front octets h) in
    subst (All (λ octet. octet < 256)) rest.2 (octets_append (take front octets) rest.0 (All-take (λ octet. octet < 256) front octets h) behind)
octets_by Strings octets own e h =
    let test = cond_some (nat_lt 0 (length octets) && are_strings octets) (Some octets) own e in
    let same : octets ≡ own = cc in
    rw same at h
octets_by Opaque octets own e h = let same : octets ≡ own = cc in rw same at h

octets_at : (o : Option Layout) (octets own : List ℕ) → option_and_then (λ (layout : Layout). data_by layout octets) o ≡ Some own → All (λ octet. octet < 256) octets → All (λ octet. octet < 256) own
octets_at None octets own e h = cc
octets_at (Some layout) octets own e h = octets_by layout octets own e h

pub data_octets : (rtype : ℕ) (octets own : List ℕ) → data_of rtype octets ≡ Some own → All (λ octet. octet < 256) octets → All (λ octet. octet < 256) own
unfolding data_of
data_octets rtype octets own e h = octets_at (layout_of rtype) octets own e h
