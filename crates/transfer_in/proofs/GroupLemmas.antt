-- Records in order, put into sets one after another.
use Rattle.std.proofs.Common.{◌≡◌, ◌≢◌, refl, sym, ap, ◌∙◌, subst, ℕ, ◌<◌, ◌≤◌, Bool, true, false, ◌&&◌, not, ◌==◌, cond, List, [], ◌∷◌, ◌++◌, length, filter, append_assoc, arith, true≢false}
use Rattle.std.specs.List.{AllByRecursion, list_all}
use Rattle.std.specs.List.Sorted.{IsStrictlySortedBy}
use Rattle.std.specs.Ordering.{nat_cmp, ordering_then, ordering_reverse, is_eq, is_gt}
use Rattle.std.specs.declared.cmp.Ordering.{Ordering}
use Rattle.std.specs.declared.cmp.Ordering.TheVariants.{Less, Equal, Greater}
use Rattle.std.specs.Cmp.Lexicographic.{slice_cmp}
use Rattle.std.proofs.lemmas.Bool.Decides.{nat_tests}
use Rattle.std.proofs.lemmas.Cmp.{tied_itself, nat_cmp_total, nat_list_cmp_total}
use Rattle.std.proofs.lemmas.Grind.{flat_map-append}
use Rattle.std.proofs.lemmas.List.{append-nil, length-append}
use Rattle.std.proofs.lemmas.List.Elements.{filter-append}
use Rattle.std.proofs.lemmas.List.Folds.{list_all-append}
use Rattle.dns_name.specs.Name.{Name, canonical_cmp, is_same}
use Rattle.dns_name.specs.Order.{canonical_total, is_same_tied}
use Rattle.dns_rdata.specs.Data.{Data}
use Rattle.dns_rdata.specs.Numbers.{type_NS, type_SOA}
use Rattle.dns_rdata.specs.Record.{Record, records_with, with_record, owner_of, rtype_of, ttl_of}
use Rattle.zone_tree.specs.Zone.{soa_of, rrset_of, is_of, share_ttl, is_alone, is_wild}
use Rattle.zone_tree.specs.Sets.{records_in, set_cmp, AreUnsplit}
use Rattle.zone_tree.proofs.Rising.{Rises, each_always, each_append, each_map, each_weaker, filter_alike, pairs_from_rises}
use Rattle.zone_tree.proofs.SetLemmas.{set_total}
use Rattle.transfer_core.specs.Take.{held_cmp, is_zone}
use Rattle.transfer_core.proofs.RecordLemmas.{both}
use Rattle.transfer_in.specs.Held.{SetKey, key_cmp, key_total}
use Rattle.transfer_in.specs.Grouped.{IsBehindAll, AreInOrder}
use Rattle.transfer_in.proofs.HoldingLemmas.{keyed, tie, then_tied}

-- a record whose data comes behind that of all records of a set goes behind them
pub with_record_behind : (r : Record) (set : List Record) → AllByRecursion (λ (s : Record). slice_cmp nat_cmp r.rdata s.rdata ≡ Greater) set → with_record r set ≡ set ++ r ∷ []
with_record_behind r [] h = refl
with_record_behind r (s ∷ set) h = rw h.0 (ap (λ (l : List Record). s ∷ l) (with_record_behind r set h.1))

-- where owner, type and TTL are one, the data decides
data_decides : (s r : Record) → s.owner ≡ r.owner → s.rtype ≡ r.rtype → s.ttl ≡ r.ttl → held_cmp s r ≡ Less → slice_cmp nat_cmp r.rdata s.rdata ≡ Greater
data_decides s r owners types ttls h =
    let o : canonical_cmp s.owner r.owner ≡ Equal = subst (λ (n : Name). canonical_cmp s.owner n ≡ Equal) owners (tied_itself canonical_total s.owner) in
    let p : nat_cmp s.rtype r.rtype ≡ Equal = subst (λ (n : ℕ). nat_cmp s.rtype n ≡ Equal) types (tied_itself nat_cmp_total s.rtype) in
    let t : nat_cmp s.ttl r.ttl ≡ Equal = subst (λ (n : ℕ). nat_cmp s.ttl n ≡ Equal) ttls (tied_itself nat_cmp_total s.ttl) in
    let is : held_cmp s r ≡ ordering_then (slice_cmp nat_cmp s.rdata r.rdata) Equal = λ i. ordering_then (ordering_then (o i) (ordering_then (p i) (slice_cmp nat_cmp s.rdata r.rdata))) (t i) in
    nat_list_cmp_total.antisymm r.rdata s.rdata ∙ ap ordering_reverse (by (slice_cmp nat_cmp s.rdata r.rdata) (sym is ∙ h))
  where
    by : (q : Ordering) → ordering_then q Equal ≡ Less → q ≡ Less
    by Less e = refl
    by Equal e = absurd (cc)
    by Greater e = absurd (cc)

-- records of one owner, one type and one TTL
pub record IsUniform (set : List Record) : Type 0 where
  pub some : 0 < length set
  pub each : AllByRecursion (λ r. (r.owner ≡ owner_of set) × (r.rtype ≡ rtype_of set) × (r.ttl ≡ ttl_of set)) set

pub uniform_from : (owner : Name) (rtype ttl : ℕ) (ds : List Data) → 0 < length ds → IsUniform (records_with owner rtype ttl ds)
uniform_from owner rtype ttl [] h = absurd (omega (arith, h))
uniform_from owner rtype ttl (d ∷ ds) h = record {
  some = omega arith;
  each = ((refl, refl, refl), each_map (λ r. (r.owner ≡ owner) × (r.rtype ≡ rtype) × (r.ttl ≡ ttl)) (λ (e : Data). record { owner = owner; rtype = rtype; ttl = ttl; rdata = e.octets }) ds (each_always (λ e. (owner ≡ owner) × (rtype ≡ rtype) × (ttl ≡ ttl)) (λ e. (refl, refl, refl)) ds));
}

-- a record that comes behind all of a set, and behind all of sets
back : {X : Type 0} (P : X → Type 0) (xs ys : List X) → AllByRecursion P (xs ++ ys) → AllByRecursion P ys
back P [] ys h = h
back P (x ∷ xs) ys h = back P xs ys h.1

pub records_in_one : (sets : List (List Record)) (set : List Record) → records_in (sets ++ set ∷ []) ≡ records_in sets ++ set
records_in_one sets set = flat_map-append (λ (s : List Record). s) sets (set ∷ []) ∙ ap (λ (l : List Record). records_in sets ++ l) (append-nil set)

pub behind_last : (held : Record) (sets front : List (List Record)) (last : List Record) → sets ≡ front ++ last ∷ [] → IsBehindAll held (records_in sets) → IsBehindAll held last
behind_last held sets front last e h = back (λ s. held_cmp s held ≡ Less) (records_in front) last (subst (λ (l : List Record). IsBehindAll held l) (ap records_in e ∙ records_in_one front last) h)

pub behind_data : (held : Record) (last : List Record) → IsUniform last → IsBehindAll held last → held.owner ≡ owner_of last → held.rtype ≡ rtype_of last → held.ttl ≡ ttl_of last → AllByRecursion (λ (s : Record). slice_cmp nat_cmp held.rdata s.rdata ≡ Greater) last
behind_data held last u behind owners types ttls = by last u.each behind
  where
    by : (xs : List Record) → AllByRecursion (λ r. (r.owner ≡ owner_of last) × (r.rtype ≡ rtype_of last) × (r.ttl ≡ ttl_of last)) xs → IsBehindAll held xs → AllByRecursion (λ (s : Record). slice_cmp nat_cmp held.rdata s.rdata ≡ Greater) xs
    by [] h k = tt
    by (x ∷ xs) h k = (data_decides x held (h.0.0 ∙ sym owners) (h.0.1 ∙ sym types) (h.0.2 ∙ sym ttls) k.0, by xs h.1 k.1)

-- a set of its own comes behind a set of which it isn't
abbrev key_of : List Record → SetKey
key_of set = record { owner = owner_of set; rtype = rtype_of set }

not_after : (o p q t : Ordering) → ordering_then (ordering_then o (ordering_then p q)) t ≡ Less → is_gt (ordering_then o p) ≡ false
not_after Less p q t e = refl
not_after Equal Less q t e = refl
not_after Equal Equal q t e = refl
not_after Equal Greater q t e = absurd (cc)
not_after Greater p q t e = absurd (cc)

less_by : (o : Ordering) → is_gt o ≡ false → is_eq (ordering_reverse o) ≡ false → o ≡ Less
less_by Less e f = refl
less_by Equal e f = absurd (true≢false f)
less_by Greater e f = absurd (true≢false e)

pub before_own : (held : Record) (last : List Record) → 0 < length last → IsBehindAll held last → is_of (owner_of last) (rtype_of last) held ≡ false → set_cmp last (held ∷ []) ≡ Less
before_own held [] some behind apart = absurd (omega (arith, some))
before_own held (s ∷ rest) some behind apart =
    let key : SetKey = record { owner = s.owner; rtype = s.rtype } in
    let own : SetKey = record { owner = held.owner; rtype = held.rtype } in
    less_by (key_cmp key own)
    (not_after (canonical_cmp s.owner held.owner) (nat_cmp s.rtype held.rtype) (slice_cmp nat_cmp s.rdata held.rdata) (nat_cmp s.ttl held.ttl) behind.0)
    (ap is_eq (sym (key_total.antisymm own key)) ∙ sym (keyed held key) ∙ apart)

-- sets in order with one more behind them, and with a record more in the last
pub order_more : (sets : List (List Record)) (last next : List Record) → AreInOrder (sets ++ last ∷ []) → set_cmp last next ≡ Less → AreInOrder ((sets ++ last ∷ []) ++ next ∷ [])
unfolding IsStrictlySortedBy
order_more [] last next h less = ((less, tt), (tt, tt))
order_more (set ∷ sets) last next h less =
    let to_last = back (λ y. set_cmp set y ≡ Less) sets (last ∷ []) h.0 in
    (each_append (λ y. set_cmp set y ≡ Less) (sets ++ last ∷ []) (next ∷ []) h.0 (set_total.trans set last next to_last.0 less, tt), order_more sets last next h.1 less)

pub order_same : (sets : List (List Record)) (last next : List Record) → owner_of next ≡ owner_of last → rtype_of next ≡ rtype_of last → AreInOrder (sets ++ last ∷ []) → AreInOrder (sets ++ next ∷ [])
unfolding IsStrictlySortedBy
order_same [] last next owners types h = (tt, tt)
order_same (set ∷ sets) last next owners types h = (by sets h.0, order_same sets last next owners types h.1)
  where
    by : (xs : List (List Record)) → AllByRecursion (λ y. set_cmp set y ≡ Less) (xs ++ last ∷ []) → AllByRecursion (λ y. set_cmp set y ≡ Less) (xs ++ next ∷ [])
    by [] k = ((λ i. ordering_then (canonical_cmp (owner_of set) (owners i)) (nat_cmp (rtype_of set) (types i))) ∙ k.0, tt)
    by (x ∷ xs) k = (k.0, by xs k.1)

pub order_one : (set : List Record) → AreInOrder (set ∷ [])
unfolding IsStrictlySortedBy
order_one set = (tt, tt)

pub order_none : AreInOrder []
unfolding IsStrictlySortedBy
order_none = tt

pub same_owner : (last : List Record) (held : Record) → 0 < length last → owner_of (last ++ held ∷ []) ≡ owner_of last
same_owner [] held h = absurd (omega (arith, h))
same_owner (s ∷ rest) held h = refl

pub same_rtype : (last : List Record) (held : Record) → 0 < length last → rtype_of (last ++ held ∷ []) ≡ rtype_of last
same_rtype [] held h = absurd (omega (arith, h))
same_rtype (s ∷ rest) held h = refl

-- sets in order are unsplit
pub unsplit : (sets : List (List Record)) → AreInOrder sets → AreUnsplit sets
unfolding IsStrictlySortedBy
unsplit sets h = pairs_from_rises (λ set other. is_same (owner_of set) (owner_of other) && rtype_of set == rtype_of other ≡ false) sets (rising sets h)
  where
    apart : (set other : List Record) → set_cmp set other ≡ Less → is_same (owner_of set) (owner_of other) && rtype_of set == rtype_of other ≡ false
    apart set other e =
        ap (λ b. b && rtype_of set == rtype_of other) (is_same_tied (owner_of set) (owner_of other))
        ∙ ap (λ b. is_eq (canonical_cmp (owner_of set) (owner_of other)) && b) (tie (rtype_of set) (rtype_of other))
        ∙ sym (then_tied (canonical_cmp (owner_of set) (owner_of other)) (nat_cmp (rtype_of set) (rtype_of other)))
        ∙ ap is_eq e

    rising : (xs : List (List Record)) → AreInOrder xs → Rises (λ set other. is_same (owner_of set) (owner_of other) && rtype_of set == rtype_of other ≡ false) xs
    rising [] k = tt
    rising (x ∷ xs) k = (each_weaker (λ y. set_cmp x y ≡ Less) (λ y. is_same (owner_of x) (owner_of y) && rtype_of x == rtype_of y ≡ false) (λ y e. apart x y e) xs k.0, rising xs k.1)

-- a set has room for one more where the records' limit has
own_is : (held : Record) → is_of held.owner held.rtype held ≡ true
own_is held = keyed held (record { owner = held.owner; rtype = held.rtype }) ∙ ap is_eq (tied_itself key_total (record { owner = held.owner; rtype = held.rtype }))

all_of : (held : Record) (last : List Record) → IsUniform last → held.owner ≡ owner_of last → held.rtype ≡ rtype_of last → AllByRecursion (λ r. is_of held.owner held.rtype r ≡ true) last
all_of held last u owners types = each_weaker (λ r. (r.owner ≡ owner_of last) × (r.rtype ≡ rtype_of last) × (r.ttl ≡ ttl_of last)) (λ r. is_of held.owner held.rtype r ≡ true) (λ r h. (λ i. is_of held.owner held.rtype (record { owner = (h.0 ∙ sym owners) i; rtype = (h.1 ∙ sym types) i; ttl = r.ttl; rdata = r.rdata })) ∙ own_is (record { owner = held.owner; rtype = held.rtype; ttl = r.ttl; rdata = r.rdata })) last u.each

pub has_room : (held : Record) (sets front : List (List Record)) (last : List Record) → sets ≡ front ++ last ∷ [] → IsUniform last → held.owner ≡ owner_of last → held.rtype ≡ rtype_of last → length (rrset_of (records_in sets ++ held ∷ []) held.owner held.rtype) ≤ 256 → length last < 256
has_room held sets front last e u owners types few =
    let p = is_of held.owner held.rtype in
    let parts : records_in sets ++ held ∷ [] ≡ (records_in front ++ last) ++ held ∷ [] = ap (λ (l : List Record). l ++ held ∷ []) (ap records_in e ∙ records_in_one front last) in
    let own : filter p (held ∷ []) ≡ held ∷ [] = ap (λ b. cond b (held ∷ []) []) (own_is held) in
    let split : rrset_of (records_in sets ++ held ∷ []) held.owner held.rtype ≡ (filter p (records_in front) ++ last) ++ held ∷ [] =
    ap (filter p) parts ∙ filter-append p (records_in front ++ last) (held ∷ [])
    ∙ (λ i. filter-append p (records_in front) last i ++ own i)
    ∙ ap (λ (l : List Record). (filter p (records_in front) ++ l) ++ held ∷ []) (filter_alike p true last (all_of held last u owners types)) in
    omega (arith, few, ap length split, length-append (filter p (records_in front) ++ last) (held ∷ []), length-append (filter p (records_in front)) last)

-- where its TTL is another, no set has both
none_both : (b : Bool) → (b && false) ≡ false
none_both true = refl
none_both false = refl

unlike : (held : Record) (xs : List Record) → 0 < length xs → AllByRecursion (λ r. is_of held.owner held.rtype r ≡ true) xs → ttl_of xs ≢ held.ttl → list_all (λ r. share_ttl r held) xs ≡ false
unlike held [] some all other = absurd (omega (arith, some))
unlike held (x ∷ xs) some all other =
    let apart : (x.ttl == held.ttl) ≡ false = differs x.ttl held.ttl other in
    rw (all.0, apart) refl
  where
    differs : (m n : ℕ) → m ≢ n → (m == n) ≡ false
    differs m n e = grind (arith, nat_tests)

pub unshared : (held : Record) (sets front : List (List Record)) (last : List Record) → sets ≡ front ++ last ∷ [] → IsUniform last → held.owner ≡ owner_of last → held.rtype ≡ rtype_of last → held.ttl ≢ ttl_of last → list_all (λ r. share_ttl r held) (records_in sets) ≡ false
unshared held sets front last e u owners types other =
    ap (list_all (λ r. share_ttl r held)) (ap records_in e ∙ records_in_one front last)
    ∙ list_all-append (λ r. share_ttl r held) (records_in front) last
    ∙ ap (λ b. list_all (λ r. share_ttl r held) (records_in front) && b) (unlike held last u.some (all_of held last u owners types) (λ same. other (sym same)))
    ∙ none_both (list_all (λ r. share_ttl r held) (records_in front))

pub nil_from : {X : Type 0} (xs : List X) → length xs ≡ 0 → xs ≡ []
nil_from [] e = refl
nil_from (x ∷ xs) e = absurd (omega arith)

-- a record that has joined the last set
pub joined_is : (held : Record) (seen last next : List Record) (d : Data) → seen ≡ last → held.owner ≡ owner_of last → held.ttl ≡ ttl_of last → d.rtype ≡ held.rtype → d.octets ≡ held.rdata → next ≡ seen ++ record { owner = owner_of seen; rtype = d.rtype; ttl = ttl_of seen; rdata = d.octets } ∷ [] → next ≡ last ++ held ∷ []
joined_is held seen last next d is owner ttl rtype octets made =
    made
    ∙ ap (λ (set : List Record). set ++ record { owner = owner_of set; rtype = d.rtype; ttl = ttl_of set; rdata = d.octets } ∷ []) is
    ∙ (λ i. last ++ record { owner = sym owner i; rtype = rtype i; ttl = sym ttl i; rdata = octets i } ∷ [])

module _ (held : Record) (old new front : List (List Record)) (last next : List Record) (parts : old ≡ front ++ last ∷ []) (made : new ≡ front ++ next ∷ []) (joined : next ≡ last ++ held ∷ []) where
  pub joined_records : records_in new ≡ records_in old ++ held ∷ []
  joined_records =
      ap records_in made ∙ records_in_one front next ∙ ap (λ (l : List Record). records_in front ++ l) joined
      ∙ sym (append_assoc (records_in front) last (held ∷ []))
      ∙ ap (λ (l : List Record). l ++ held ∷ []) (sym (ap records_in parts ∙ records_in_one front last))

  pub joined_order : 0 < length last → AreInOrder old → AreInOrder new
  joined_order some h =
      subst (λ (sets : List (List Record)). AreInOrder sets) (sym made)
      (order_same front last next (ap owner_of joined ∙ same_owner last held some) (ap rtype_of joined ∙ same_rtype last held some) (subst (λ (sets : List (List Record)). AreInOrder sets) parts h))

-- what the test of a zone says
pub record ZoneParts (apex : Name) (records : List Record) : Type 0 where
  pub shared : list_all (λ r. list_all (share_ttl r) records) records ≡ true
  pub one : (length (soa_of records) == 1) ≡ true
  pub at_apex : (length (rrset_of records apex type_SOA) == 1) ≡ true
  pub served : not (length (rrset_of records apex type_NS) == 0) ≡ true
  pub alone : list_all (is_alone records) records ≡ true
  pub cuts : list_all (λ r. not (is_wild r.owner && r.rtype == type_NS)) records ≡ true

pub zone_parts : (apex : Name) (records : List Record) → is_zone apex records ≡ true → ZoneParts apex records
zone_parts apex records e =
    let f = both _ (list_all (λ r. not (is_wild r.owner && r.rtype == type_NS)) records) e in
    let a = both _ (list_all (is_alone records) records) f.0 in
    let n = both _ (not (length (rrset_of records apex type_NS) == 0)) a.0 in
    let s = both _ (length (rrset_of records apex type_SOA) == 1) n.0 in
    let o = both _ (length (soa_of records) == 1) s.0 in
    record { shared = o.0; one = o.1; at_apex = s.1; served = n.1; alone = a.1; cuts = f.1 }

-- records in order, of which some are in sets
module _ (done : List Record) (held : Record) (rest records : List Record) (parts : done ++ held ∷ rest ≡ records) where
  pub is_behind : IsStrictlySortedBy held_cmp records → IsBehindAll held done
  unfolding IsStrictlySortedBy
  is_behind h = by done (subst (λ (zs : List Record). IsStrictlySortedBy held_cmp zs) (sym parts) h)
    where
      by : (zs : List Record) → IsStrictlySortedBy held_cmp (zs ++ held ∷ rest) → IsBehindAll held zs
      by [] k = tt
      by (z ∷ zs) k = ((back (λ y. held_cmp z y ≡ Less) zs (held ∷ rest) k.0).0, by zs k.1)

  pub each_at : (P : Record → Type 0) → AllByRecursion P records → P held
  each_at P h = (back P done (held ∷ rest) (subst (λ (zs : List Record). AllByRecursion P zs) (sym parts) h)).0

  pub room_at : AllByRecursion (λ r. length (rrset_of records r.owner r.rtype) ≤ 256) records → length (rrset_of (done ++ held ∷ []) held.owner held.rtype) ≤ 256
  room_at h =
      let p = is_of held.owner held.rtype in
      let own : length (filter p records) ≤ 256 = each_at (λ r. length (rrset_of records r.owner r.rtype) ≤ 256) h in
      let split : filter p records ≡ filter p (done ++ held ∷ []) ++ filter p rest = ap (filter p) (sym parts ∙ sym (append_assoc done (held ∷ []) rest)) ∙ filter-append p (done ++ held ∷ []) rest in
      omega (arith, own, ap length split, length-append (filter p (done ++ held ∷ [])) (filter p rest))

  pass_at : (p : Record → Bool) → list_all p records ≡ true → p held ≡ true
  pass_at p e =
      let split : (list_all p done && list_all p (held ∷ rest)) ≡ true = sym (list_all-append p done (held ∷ rest)) ∙ ap (list_all p) parts ∙ e in
      (both (p held) (list_all p rest) (both (list_all p done) (list_all p (held ∷ rest)) split).1).0

  pub one_shared : list_all (λ r. list_all (share_ttl r) records) records ≡ true → list_all (λ r. share_ttl r held) done ≡ true
  one_shared e = by done (both (list_all (λ r. list_all (share_ttl r) records) done) _ (sym (list_all-append (λ r. list_all (share_ttl r) records) done (held ∷ rest)) ∙ ap (list_all (λ r. list_all (share_ttl r) records)) parts ∙ e)).0
    where
      by : (zs : List Record) → list_all (λ r. list_all (share_ttl r) records) zs ≡ true → list_all (λ r. share_ttl r held) zs ≡ true
      by [] k = refl
      by (z ∷ zs) k =
          let first = both (list_all (share_ttl z) records) _ k in
          rw (pass_at (share_ttl z) first.0) (by zs first.1)

  pub no_zone : (apex : Name) → list_all (λ r. share_ttl r held) done ≡ false → is_zone apex records ≡ false
  no_zone apex other = by (is_zone apex records) refl
    where
      by : (b : Bool) → is_zone apex records ≡ b → b ≡ false
      by false e = refl
      by true e = absurd (true≢false (sym (one_shared (zone_parts apex records e).shared) ∙ other))
