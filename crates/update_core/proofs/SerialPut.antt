-- A zone with another serial: it keeps the rules, and its SOA's set alone is another.
use Rattle.std.proofs.Common.{◌≡◌, ℕ, ◌<◌, ◌≤◌, Bool, true, false, not, ◌&&◌, ◌||◌, ◌==◌, cond, List, [], ◌∷◌, ◌++◌, length, filter, All, Some, refl, sym, ap, subst, ◌∙◌, arith}
use Rattle.std.specs.List.{AllByRecursion}
use Rattle.std.specs.Ordering.{is_lt, is_gt, is_eq, nat_cmp, ordering_then}
use Rattle.std.specs.declared.cmp.Ordering.{Ordering}
use Rattle.std.specs.declared.cmp.Ordering.TheVariants.{Less, Equal, Greater}
use Rattle.std.specs.Cmp.Lexicographic.{slice_cmp}
use Rattle.std.proofs.lemmas.Bool.{eqb-true}
use Rattle.std.proofs.lemmas.List.{length-map, map-append}
use Rattle.std.proofs.lemmas.List.Elements.{All-head, All-tail, All-map, All-weaker, filter_passes}
use Rattle.dns_name.specs.Name.{Name, is_same, canonical_cmp}
use Rattle.dns_name.specs.Order.{is_same_equiv}
use Rattle.dns_name.proofs.OrderLemmas.{then_assoc}
use Rattle.dns_rdata.specs.Numbers.{type_SOA}
use Rattle.dns_rdata.specs.Data.{data_of, with_serial}
use Rattle.dns_rdata.specs.Record.{Record, IsLawful, record_cmp, owner_of, rtype_of}
use Rattle.dns_rdata.proofs.SoaSerial.{form-with_serial, octets-with_serial}
use Rattle.zone_tree.specs.Zone.{KeepsRules, IsBefore, is_of, soa_of, apex_of, share_ttl}
use Rattle.zone_tree.specs.Change.{with_rrset}
use Rattle.zone_tree.proofs.Rising.{Rises, pairs_from_rises, rises_from_pairs}
use Rattle.update_core.specs.Act.{record_at_serial, at_serial}
use Rattle.update_core.proofs.SoaKept.{is_soa}
use Rattle.update_core.proofs.RulesBeside.{beside_from, rules_from}
use Rattle.update_core.proofs.RulesChanged.{filter-map, map_beside}
use Rattle.update_core.proofs.Candidates.{Keeps}
use Rattle.update_core.proofs.RowsKeep.{soa_places_of}
use Rattle.update_core.proofs.ZoneParts.{of_place, three_parts, set_parts, before_part, own_part, behind_part}

-- an SOA stands at the apex
abbrev AtApex : Name → Record → Type 0
AtApex apex s = is_soa s ≡ true → s.owner ≡ apex

-- the order by owner and type, and then by data
abbrev key_cmp : Record → Record → Ordering
key_cmp r s = ordering_then (canonical_cmp r.owner s.owner) (nat_cmp r.rtype s.rtype)

by_data : (r s : Record) → record_cmp r s ≡ ordering_then (key_cmp r s) (slice_cmp nat_cmp r.rdata s.rdata)
by_data r s = sym (then_assoc (canonical_cmp r.owner s.owner) (nat_cmp r.rtype s.rtype) (slice_cmp nat_cmp r.rdata s.rdata))

module _ (n : ℕ) where
  abbrev f : Record → Record
  f = record_at_serial n

  owner_at : (b : Bool) (s : Record) → (cond b (record s { rdata = with_serial n s.rdata }) s).owner ≡ s.owner
  owner_at true s = refl
  owner_at false s = refl

  rtype_at : (b : Bool) (s : Record) → (cond b (record s { rdata = with_serial n s.rdata }) s).rtype ≡ s.rtype
  rtype_at true s = refl
  rtype_at false s = refl

  ttl_at : (b : Bool) (s : Record) → (cond b (record s { rdata = with_serial n s.rdata }) s).ttl ≡ s.ttl
  ttl_at true s = refl
  ttl_at false s = refl

  pub serial_owner : (s : Record) → (f s).owner ≡ s.owner
  serial_owner s = owner_at (is_soa s) s

  pub serial_rtype : (s : Record) → (f s).rtype ≡ s.rtype
  serial_rtype s = rtype_at (is_soa s) s

  serial_ttl : (s : Record) → (f s).ttl ≡ s.ttl
  serial_ttl s = ttl_at (is_soa s) s

  lawful_at : (b : Bool) (s : Record) → is_soa s ≡ b → IsLawful s → IsLawful (cond b (record s { rdata = with_serial n s.rdata }) s)
  lawful_at true s e k =
      let typed = eqb-true s.rtype type_SOA e in
      let form : data_of 6 s.rdata ≡ Some s.rdata = subst (λ t. data_of t s.rdata ≡ Some s.rdata) typed k.form in
      record {
        name = k.name;
        owner_octets = k.owner_octets;
        folded = k.folded;
        lasts = k.lasts;
        form = subst (λ t. data_of t (with_serial n s.rdata) ≡ Some (with_serial n s.rdata)) (sym typed) (form-with_serial s.rdata n form);
        octets = octets-with_serial s.rdata n k.octets;
      }
  lawful_at false s e k = k

  -- two records of which one isn't an SOA stand in the same order
  stays_less : (a b c : Ordering) → is_eq a ≡ false → is_lt (ordering_then a b) ≡ true → is_lt (ordering_then a c) ≡ true
  stays_less Less b c e h = refl
  stays_less Equal b c e h = cc
  stays_less Greater b c e h = cc

  types_differ : (r s : Record) → is_soa r ≡ true → is_soa s ≡ false → is_of s.owner s.rtype r ≡ false
  types_differ r s is isnt = other (is_same r.owner s.owner) (r.rtype == s.rtype) refl
    where
      other : (a b : Bool) → (r.rtype == s.rtype) ≡ b → a && b ≡ false
      other false b e = refl
      other true false e = refl
      other true true e = let same = eqb-true r.rtype s.rtype e in let wrong = ap (λ t. t == type_SOA) same in cc

  differ_turned : (r s : Record) → is_soa r ≡ false → is_soa s ≡ true → is_of s.owner s.rtype r ≡ false
  differ_turned r s isnt is = other (is_same r.owner s.owner) (r.rtype == s.rtype) refl
    where
      other : (a b : Bool) → (r.rtype == s.rtype) ≡ b → a && b ≡ false
      other false b e = refl
      other true false e = refl
      other true true e = let same = eqb-true r.rtype s.rtype e in let wrong = ap (λ t. t == type_SOA) same in cc

  still_before : (r s : Record) → is_of s.owner s.rtype r ≡ false → IsBefore r s → IsBefore (f r) (f s)
  still_before r s apart before =
      let keys : key_cmp (f r) (f s) ≡ key_cmp r s = λ i. ordering_then (canonical_cmp (serial_owner r i) (serial_owner s i)) (nat_cmp (serial_rtype r i) (serial_rtype s i)) in
      let tied : is_eq (key_cmp r s) ≡ false = sym (of_place s.owner s.rtype r) ∙ apart in
      let was : is_lt (ordering_then (key_cmp r s) (slice_cmp nat_cmp r.rdata s.rdata)) ≡ true = ap is_lt (sym (by_data r s)) ∙ before in
      ap is_lt (by_data (f r) (f s) ∙ ap (λ o. ordering_then o (slice_cmp nat_cmp (f r).rdata (f s).rdata)) keys) ∙ stays_less (key_cmp r s) (slice_cmp nat_cmp r.rdata s.rdata) (slice_cmp nat_cmp (f r).rdata (f s).rdata) tied was

  pair_by : (r s : Record) (b c : Bool) → is_soa r ≡ b → is_soa s ≡ c → (b ≡ true → c ≡ false) → IsBefore r s → IsBefore (f r) (f s)
  pair_by r s true true e k one before = absurd (let wrong = one refl in cc)
  pair_by r s true false e k one before = still_before r s (types_differ r s e k) before
  pair_by r s false true e k one before = still_before r s (differ_turned r s e k) before
  pair_by r s false false e k one before = rw (e, k) before

  -- of records of which one at most is an SOA
  none_else : (zs : List Record) → length (soa_of zs) ≡ 0 → AllByRecursion (λ s. is_soa s ≡ false) zs
  none_else [] e = tt
  none_else (z ∷ zs) e = by (is_soa z) refl e (none_else zs)
    where
      by : (b : Bool) → is_soa z ≡ b → length (cond b (z ∷ soa_of zs) (soa_of zs)) ≡ 0 → (length (soa_of zs) ≡ 0 → AllByRecursion (λ s. is_soa s ≡ false) zs) → (is_soa z ≡ false) × AllByRecursion (λ s. is_soa s ≡ false) zs
      by true is e more = absurd (omega arith)
      by false is e more = (is, more e)

  first_stays : (z : Record) (zs : List Record) → (is_soa z ≡ true → AllByRecursion (λ s. is_soa s ≡ false) zs) → AllByRecursion (IsBefore z) zs → AllByRecursion (IsBefore (f z)) (at_serial n zs)
  first_stays z [] one h = tt
  first_stays z (s ∷ ss) one h = (pair_by z s (is_soa z) (is_soa s) refl refl (λ also. (one also).0) h.0, first_stays z ss (λ also. (one also).1) h.1)

  serial_rises : (zs : List Record) → length (soa_of zs) ≤ 1 → Rises IsBefore zs → Rises IsBefore (at_serial n zs)
  serial_rises [] few h = tt
  serial_rises (z ∷ zs) few h = by (is_soa z) refl few (λ less. serial_rises zs less h.1)
    where
      by : (b : Bool) → is_soa z ≡ b → length (cond b (z ∷ soa_of zs) (soa_of zs)) ≤ 1 → (length (soa_of zs) ≤ 1 → Rises IsBefore (at_serial n zs)) → Rises IsBefore (at_serial n (z ∷ zs))
      by true is few more = let none : length (soa_of zs) ≡ 0 = omega arith in let less : length (soa_of zs) ≤ 1 = omega arith in (first_stays z zs (λ _. none_else zs none) h.0, more less)
      by false is few more = (first_stays z zs (λ also. absurd (cc)) h.0, more few)

  shares : (r s : Record) → share_ttl r s ≡ true → share_ttl (f r) (f s) ≡ true
  shares r s h = (λ i. not (is_same (serial_owner r i) (serial_owner s i) && serial_rtype r i == serial_rtype s i) || serial_ttl r i == serial_ttl s i) ∙ h

  soas : (zone : List Record) → soa_of (at_serial n zone) ≡ at_serial n (soa_of zone)
  soas zone = filter-map f serial_owner serial_rtype is_soa (λ s. ap (λ t. t == type_SOA) (serial_rtype s)) zone

  first_owner : (zs : List Record) → owner_of (at_serial n zs) ≡ owner_of zs
  first_owner [] = refl
  first_owner (z ∷ zs) = serial_owner z

  pub serial_keeps : (zone : List Record) → KeepsRules zone → Keeps zone (at_serial n zone)
  serial_keeps zone h =
      let apex = apex_of zone in
      let next = at_serial n zone in
      let same : apex_of next ≡ apex = ap owner_of (soas zone) ∙ first_owner (soa_of zone) in
      let few : length (soa_of zone) ≤ 1 = omega (arith, h.one_soa) in
      record {
        rules = rules_from apex next
            (map_beside f serial_owner serial_rtype apex zone (beside_from zone h)
            (All-map IsLawful f zone (All-weaker IsLawful (λ s. IsLawful (f s)) (λ s k. lawful_at (is_soa s) s refl k) zone h.lawful))
            (pairs_from_rises IsBefore next (serial_rises zone few (rises_from_pairs IsBefore zone h.ascending)))
            (All-map (λ r. All (λ s. share_ttl r s ≡ true) next) f zone
            (All-weaker (λ r. All (λ s. share_ttl r s ≡ true) zone) (λ r. All (λ s. share_ttl (f r) s ≡ true) next)
            (λ r k. All-map (λ s. share_ttl (f r) s ≡ true) f zone (All-weaker (λ s. share_ttl r s ≡ true) (λ s. share_ttl (f r) (f s) ≡ true) (shares r) zone k)) zone h.one_ttl)))
            (ap length (soas zone) ∙ length-map (soa_of zone) f ∙ h.one_soa) same;
        apex = same;
      }

  -- what isn't at the apex, or is of another type, stays
  untouched : (apex : Name) (q : Record → Bool) → ((s : Record) → q s ≡ true → is_of apex type_SOA s ≡ false) → (zs : List Record) → All (AtApex apex) zs → at_serial n (filter q zs) ≡ filter q zs
  untouched apex q apart [] at = refl
  untouched apex q apart (z ∷ zs) at = by (q z) (is_soa z) refl refl (untouched apex q apart zs (All-tail (AtApex apex) z zs at))
    where
      by : (b c : Bool) → q z ≡ b → is_soa z ≡ c → at_serial n (filter q zs) ≡ filter q zs → at_serial n (cond b (z ∷ filter q zs) (filter q zs)) ≡ cond b (z ∷ filter q zs) (filter q zs)
      by false c e k more = more
      by true false e k more = (λ i. cond (k i) (record z { rdata = with_serial n z.rdata }) z ∷ more i)
      by true true e k more =
          let here : z.owner ≡ apex = All-head (AtApex apex) z zs at k in
          let is : is_of apex type_SOA z ≡ true = rw (here, is_same_equiv.refl apex) k in
          absurd (let isnt = apart z e in cc)

  own_is : (apex : Name) (zs : List Record) → All (AtApex apex) zs → filter (is_of apex type_SOA) zs ≡ soa_of zs
  own_is apex [] at = refl
  own_is apex (z ∷ zs) at = by (is_soa z) refl ∙ ap (λ ys. cond (is_soa z) (z ∷ ys) ys) (own_is apex zs (All-tail (AtApex apex) z zs at))
    where
      ys : List Record
      ys = filter (is_of apex type_SOA) zs

      by : (b : Bool) → is_soa z ≡ b → cond (is_same z.owner apex && is_soa z) (z ∷ filter (is_of apex type_SOA) zs) (filter (is_of apex type_SOA) zs) ≡ cond b (z ∷ filter (is_of apex type_SOA) zs) (filter (is_of apex type_SOA) zs)
      by true k = let here : z.owner ≡ apex = All-head (AtApex apex) z zs at k in rw (here, is_same_equiv.refl apex, k) refl
      by false k = neither (is_same z.owner apex) k
        where
          neither : (a : Bool) → is_soa z ≡ false → cond (a && is_soa z) (z ∷ filter (is_of apex type_SOA) zs) (filter (is_of apex type_SOA) zs) ≡ filter (is_of apex type_SOA) zs
          neither true isnt = rw isnt refl
          neither false isnt = refl

  first_rtype : (zs : List Record) → 0 < length zs → All (λ s. is_soa s ≡ true) zs → rtype_of (at_serial n zs) ≡ type_SOA
  first_rtype [] some h = absurd (omega arith)
  first_rtype (z ∷ zs) some h = serial_rtype z ∙ eqb-true z.rtype type_SOA (All-head (λ s. is_soa s ≡ true) z zs h)

  less_not : (o : Ordering) → is_lt o ≡ true → is_eq o ≡ false
  less_not Less e = refl
  less_not Equal e = cc
  less_not Greater e = cc

  more_not : (o : Ordering) → is_gt o ≡ true → is_eq o ≡ false
  more_not Less e = cc
  more_not Equal e = cc
  more_not Greater e = refl

  -- the SOA's set is put in the place of the one that stands
  pub serial_edits : (zone : List Record) → KeepsRules zone → at_serial n zone ≡ with_rrset zone (at_serial n (soa_of zone))
  serial_edits zone h =
      let apex = apex_of zone in
      let places = soa_places_of zone h in
      let front = before_part apex type_SOA zone in
      let own = own_part apex type_SOA zone in
      let back = behind_part apex type_SOA zone in
      let at = λ (s : Record). ordering_then (canonical_cmp s.owner apex) (nat_cmp s.rtype type_SOA) in
      let parts = three_parts apex type_SOA zone (rises_from_pairs IsBefore zone h.ascending) in
      let front_same : at_serial n front ≡ front = untouched apex (λ s. is_lt (at s)) (λ s e. of_place apex type_SOA s ∙ less_not (at s) e) zone places in
      let back_same : at_serial n back ≡ back = untouched apex (λ s. is_gt (at s)) (λ s e. of_place apex type_SOA s ∙ more_not (at s) e) zone places in
      let soa : own ≡ soa_of zone = own_is apex zone places in
      let some : 0 < length (soa_of zone) = omega (arith, h.one_soa) in
      let put = set_parts apex type_SOA zone (at_serial n (soa_of zone)) (ap (λ o. is_same o apex) (first_owner (soa_of zone)) ∙ is_same_equiv.refl apex) (first_rtype (soa_of zone) some (filter_passes is_soa zone)) in
      ap (at_serial n) parts ∙ map-append f front (own ++ back) ∙ ap (λ rs. at_serial n front ++ rs) (map-append f own back)
      ∙ (λ i. front_same i ++ (at_serial n (soa i) ++ back_same i)) ∙ sym put
