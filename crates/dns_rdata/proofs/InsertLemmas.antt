-- One more among data in order.
use Rattle.std.proofs.Common.{◌≡◌, ℕ, zero, suc, ◌+◌, ◌<◌, ◌≤◌, Bool, true, false, cond, List, [], ◌∷◌, length, map, insert, All, refl, sym, ap, ◌∙◌, arith}
use Rattle.std.specs.List.{AllPairs}
use Rattle.std.specs.Prelude.{bytes_eq}
use Rattle.std.specs.Ordering.{nat_cmp, is_lt, is_eq, ordering_reverse}
use Rattle.std.specs.declared.cmp.Ordering.{Ordering}
use Rattle.std.specs.declared.cmp.Ordering.TheVariants.{Less, Equal, Greater}
use Rattle.std.specs.Cmp.Lexicographic.{slice_cmp}
use Rattle.std.proofs.lemmas.Cmp.{nat_list_cmp_total}
use Rattle.std.proofs.lemmas.List.Edits.{length-insert}
use Rattle.std.proofs.lemmas.List.Elements.{All-nil, All-cons, All-head, All-tail, All-weaker}
use Rattle.std.proofs.lemmas.Map.Text.{is_eq-slice_cmp}
use Rattle.dns_rdata.specs.Data.{Data, IsData}
use Rattle.dns_rdata.specs.Record.{Record, records_with, owner_of, rtype_of, ttl_of, IsBefore, IsSet, with_data, with_record, has_data}

-- how two data compare by their octets
abbrev cmp_of : Data → Data → Ordering
cmp_of c d = slice_cmp nat_cmp c.octets d.octets

Less-from : (o : Ordering) → is_lt o ≡ true → o ≡ Less
Less-from Less e = refl
Less-from Equal e = cc
Less-from Greater e = cc

IsBefore-trans : (c d e : Data) → IsBefore c d → IsBefore d e → IsBefore c e
IsBefore-trans c d e before after =
    let less = nat_list_cmp_total.trans c.octets d.octets e.octets (Less-from (cmp_of c d) before) (Less-from (cmp_of d e) after) in
    ap is_lt less

IsBefore-from_greater : (c d : Data) → cmp_of d c ≡ Greater → IsBefore c d
IsBefore-from_greater c d e = let back = nat_list_cmp_total.antisymm c.octets d.octets in ap is_lt (back ∙ ap ordering_reverse e)

-- what holds of each pair holds of the first and each later one, and of the pairs of the later ones
module _ {X : Type 0} (R : X → X → Type 0) where
  pairs_head : (x : X) (xs : List X) → AllPairs R (x ∷ xs) → All (R x) xs
  pairs_head x xs h = λ k d within. h 0 (suc k) d (omega arith) (omega arith)

  pairs_tail : (x : X) (xs : List X) → AllPairs R (x ∷ xs) → AllPairs R xs
  pairs_tail x xs h = λ i j d before within. h (suc i) (suc j) d (omega arith) (omega arith)

  pair_at : (x : X) (xs : List X) → All (R x) xs → AllPairs R xs → AllPairs R (x ∷ xs)
  pair_at x xs first later i zero d before within = absurd (omega arith)
  pair_at x xs first later zero (suc j) d before within = first j d (omega arith)
  pair_at x xs first later (suc i) (suc j) d before within = later i j d (omega arith) (omega arith)

-- the three ways in which data goes among others
by_order-at : (P : List Data → Type 0) (d c : Data) (cs : List Data) (o : Ordering) → (o ≡ Less → P (d ∷ c ∷ cs)) → (o ≡ Equal → P (c ∷ cs)) → (o ≡ Greater → P (c ∷ with_data d cs)) → P (cond (is_lt o) (d ∷ c ∷ cs) (cond (is_eq o) (c ∷ cs) (c ∷ with_data d cs)))
by_order-at P d c cs Less less equal greater = less refl
by_order-at P d c cs Equal less equal greater = equal refl
by_order-at P d c cs Greater less equal greater = greater refl

by_order : (P : List Data → Type 0) (d c : Data) (cs : List Data) → (cmp_of d c ≡ Less → P (d ∷ c ∷ cs)) → (cmp_of d c ≡ Equal → P (c ∷ cs)) → (cmp_of d c ≡ Greater → P (c ∷ with_data d cs)) → P (with_data d (c ∷ cs))
by_order P d c cs less equal greater = by_order-at P d c cs (cmp_of d c) less equal greater

-- what holds of the data and of the new one holds of all
pub All-with_data : (P : Data → Type 0) (d : Data) (ds : List Data) → P d → All P ds → All P (with_data d ds)
All-with_data P d [] here h = All-cons P d [] here h
All-with_data P d (c ∷ cs) here h =
    by_order (All P) d c cs (λ _. All-cons P d (c ∷ cs) here h) (λ _. h)
    (λ _. All-cons P c (with_data d cs) (All-head P c cs h) (All-with_data P d cs here (All-tail P c cs h)))

-- the order stays
pub ascending-with_data : (d : Data) (ds : List Data) → AllPairs IsBefore ds → AllPairs IsBefore (with_data d ds)
ascending-with_data d [] h = pair_at IsBefore d [] (All-nil (IsBefore d)) h
ascending-with_data d (c ∷ cs) h =
    let later = pairs_head IsBefore c cs h in
    by_order (AllPairs IsBefore) d c cs
    (λ less. let before : IsBefore d c = ap is_lt less in pair_at IsBefore d (c ∷ cs) (All-cons (IsBefore d) c cs before (All-weaker (IsBefore c) (IsBefore d) (λ e after. IsBefore-trans d c e before after) cs later)) h)
    (λ _. h)
    (λ greater. pair_at IsBefore c (with_data d cs) (All-with_data (IsBefore c) d cs (IsBefore-from_greater c d greater) later) (ascending-with_data d cs (pairs_tail IsBefore c cs h)))

-- data that stands before all others is none of them
not_among : (owner : List (List ℕ)) (rtype ttl : ℕ) (d : Data) (ds : List Data) → All (IsBefore d) ds → has_data (records_with owner rtype ttl ds) d.octets ≡ false
not_among owner rtype ttl d [] h = refl
not_among owner rtype ttl d (c ∷ cs) h =
    let less = Less-from (cmp_of d c) (All-head (IsBefore d) c cs h) in
    let apart = sym (is_eq-slice_cmp d.octets c.octets) ∙ ap is_eq less in
    rw apart (not_among owner rtype ttl d cs (All-tail (IsBefore d) c cs h))

-- data that is there already changes nothing
pub same-from_has : (owner : List (List ℕ)) (rtype ttl : ℕ) (d : Data) (ds : List Data) → AllPairs IsBefore ds → has_data (records_with owner rtype ttl ds) d.octets ≡ true → with_data d ds ≡ ds
same-from_has owner rtype ttl d [] h e = cc
same-from_has owner rtype ttl d (c ∷ cs) h e =
    let later = pairs_head IsBefore c cs h in
    let test = is_eq-slice_cmp d.octets c.octets in
    by_order (λ (ds : List Data). ds ≡ c ∷ cs) d c cs
    (λ less. let before : IsBefore d c = ap is_lt less in let none = not_among owner rtype ttl d (c ∷ cs) (All-cons (IsBefore d) c cs before (All-weaker (IsBefore c) (IsBefore d) (λ e after. IsBefore-trans d c e before after) cs later)) in cc)
    (λ _. refl)
    (λ greater. let apart : bytes_eq d.octets c.octets ≡ false = sym test ∙ ap is_eq greater in ap (λ (ds : List Data). c ∷ ds) (same-from_has owner rtype ttl d cs (pairs_tail IsBefore c cs h) (rw apart at e)))

-- data that isn't there makes one more
longer-from_not : (owner : List (List ℕ)) (rtype ttl : ℕ) (d : Data) (ds : List Data) → has_data (records_with owner rtype ttl ds) d.octets ≡ false → length (with_data d ds) ≡ length ds + 1
longer-from_not owner rtype ttl d [] e = refl
longer-from_not owner rtype ttl d (c ∷ cs) e =
    let test = is_eq-slice_cmp d.octets c.octets in
    by_order (λ (ds : List Data). length ds ≡ length (c ∷ cs) + 1) d c cs
    (λ _. omega arith)
    (λ equal. let same : bytes_eq d.octets c.octets ≡ true = sym test ∙ ap is_eq equal in let wrong = rw same at e in cc)
    (λ greater. let apart : bytes_eq d.octets c.octets ≡ false = sym test ∙ ap is_eq greater in let more = longer-from_not owner rtype ttl d cs (rw apart at e) in omega arith)

by_has : (P : Type 0) (b : Bool) → (b ≡ true → P) → (b ≡ false → P) → P
by_has P true there missing = there refl
by_has P false there missing = missing refl

-- whether data is there, by what a search of its place gives
pub has-from_same : (owner : List (List ℕ)) (rtype ttl : ℕ) (d : Data) (ds : List Data) → with_data d ds ≡ ds → has_data (records_with owner rtype ttl ds) d.octets ≡ true
has-from_same owner rtype ttl d ds same =
    by_has (has_data (records_with owner rtype ttl ds) d.octets ≡ true) (has_data (records_with owner rtype ttl ds) d.octets) (λ there. there)
    (λ missing. let more = longer-from_not owner rtype ttl d ds missing in absurd (omega (arith, ap length same)))

pub has_not-from_insert : (owner : List (List ℕ)) (rtype ttl : ℕ) (d : Data) (ds : List Data) (at : ℕ) → AllPairs IsBefore ds → at ≤ length ds → with_data d ds ≡ insert ds at d → has_data (records_with owner rtype ttl ds) d.octets ≡ false
has_not-from_insert owner rtype ttl d ds at ascending within put =
    by_has (has_data (records_with owner rtype ttl ds) d.octets ≡ false) (has_data (records_with owner rtype ttl ds) d.octets)
    (λ there. let same = same-from_has owner rtype ttl d ds ascending there in let more = length-insert ds at d within in absurd (omega (arith, ap length (sym same ∙ put))))
    (λ missing. missing)

-- the record of one owner, type and TTL that has these data
abbrev record_with : List (List ℕ) → ℕ → ℕ → Data → Record
record_with owner rtype ttl d = record { owner = owner; rtype = rtype; ttl = ttl; rdata = d.octets }

-- the records of data with one more are the records with one more
with_record-at : (owner : List (List ℕ)) (rtype ttl : ℕ) (d c : Data) (cs : List Data) (o : Ordering) → let of = records_with owner rtype ttl in let r = record_with owner rtype ttl d in of (with_data d cs) ≡ with_record r (of cs) → of (cond (is_lt o) (d ∷ c ∷ cs) (cond (is_eq o) (c ∷ cs) (c ∷ with_data d cs))) ≡ cond (is_lt o) (r ∷ of (c ∷ cs)) (cond (is_eq o) (of (c ∷ cs)) (record_with owner rtype ttl c ∷ with_record r (of cs)))
with_record-at owner rtype ttl d c cs Less h = refl
with_record-at owner rtype ttl d c cs Equal h = refl
with_record-at owner rtype ttl d c cs Greater h = ap (λ (rs : List Record). record_with owner rtype ttl c ∷ rs) h

with_record-records_with : (owner : List (List ℕ)) (rtype ttl : ℕ) (d : Data) (ds : List Data) → records_with owner rtype ttl (with_data d ds) ≡ with_record (record_with owner rtype ttl d) (records_with owner rtype ttl ds)
with_record-records_with owner rtype ttl d [] = refl
with_record-records_with owner rtype ttl d (c ∷ cs) = with_record-at owner rtype ttl d c cs (cmp_of d c) (with_record-records_with owner rtype ttl d cs)

pub records_with-with_data : (owner : List (List ℕ)) (rtype ttl : ℕ) (d : Data) (ds : List Data) → 0 < length ds → let rs = records_with owner rtype ttl ds in d.rtype ≡ rtype_of rs → records_with owner rtype ttl (with_data d ds) ≡ with_record (record { owner = owner_of rs; rtype = d.rtype; ttl = ttl_of rs; rdata = d.octets }) rs
records_with-with_data owner rtype ttl d [] some typed = absurd (omega arith)
records_with-with_data owner rtype ttl d (c ∷ cs) some typed =
    with_record-records_with owner rtype ttl d (c ∷ cs)
    ∙ ap (λ (t : ℕ). with_record (record { owner = owner; rtype = t; ttl = ttl; rdata = d.octets }) (records_with owner rtype ttl (c ∷ cs))) (sym typed)

-- a set with one more is a set
pub IsSet-with_data : (owner : List (List ℕ)) (rtype ttl : ℕ) (d : Data) (ds : List Data) (at : ℕ) → IsSet owner rtype ttl ds → d.rtype ≡ rtype → IsData d → length ds < 256 → at ≤ length ds → with_data d ds ≡ insert ds at d → IsSet owner rtype ttl (insert ds at d)
IsSet-with_data owner rtype ttl d ds at set typed lawful room within put =
    let more = length-insert ds at d within in
    rw (← put) (record {
      name = set.name;
      owner_octets = set.owner_octets;
      folded = set.folded;
      lasts = set.lasts;
      some = omega (arith, ap length put);
      few = omega (arith, ap length put);
      typed = All-with_data (λ (e : Data). e.rtype ≡ rtype) d ds typed set.typed;
      lawful = All-with_data IsData d ds lawful set.lawful;
      ascending = ascending-with_data d ds set.ascending;
    })

-- each record gets the TTL
pub records_with-ttl : (owner : List (List ℕ)) (rtype ttl other : ℕ) (ds : List Data) → records_with owner rtype ttl ds ≡ map (λ (r : Record). record r { ttl = ttl }) (records_with owner rtype other ds)
records_with-ttl owner rtype ttl other [] = refl
records_with-ttl owner rtype ttl other (d ∷ ds) = ap (λ (rs : List Record). record_with owner rtype ttl d ∷ rs) (records_with-ttl owner rtype ttl other ds)
