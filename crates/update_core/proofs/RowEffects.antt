-- What the rows of an update do to a zone, by the changes that they make (RFC 2136, 3.4.2).
use Rattle.std.proofs.Common.{◌≡◌, ◌≢◌, ◌⊎◌, inl, inr, ℕ, ◌<◌, ◌≤◌, Bool, true, false, not, ◌&&◌, ◌||◌, ◌==◌, cond, if◌then◌else◌, nat_lt, nat_le, drop, length-append, IfOk, Result, Ok, Err, List, [], ◌∷◌, ◌++◌, map, length, filter, All, Option, None, Some, refl, sym, ap, ◌∙◌, arith}
use Rattle.std.specs.List.{list_any, flat_map, AllByRecursion}
use Rattle.std.specs.Option.{is_some}
use Rattle.std.specs.Ordering.{nat_cmp, is_lt, is_gt, is_eq, ordering_then}
use Rattle.std.specs.declared.cmp.Ordering.{Ordering}
use Rattle.std.specs.declared.cmp.Ordering.TheVariants.{Less, Equal, Greater}
use Rattle.std.specs.Cmp.Lexicographic.{slice_cmp}
use Rattle.std.proofs.lemmas.Bool.{eqb-true}
use Rattle.std.proofs.lemmas.Bool.Decides.{nat_tests, Decides-eqb}
use Rattle.std.proofs.lemmas.List.Elements.{All-head, All-tail, filter-append}
use Rattle.dns_name.specs.Name.{Name, is_same, canonical_cmp, wire_of, name_in}
use Rattle.dns_name.proofs.LawLemmas.{name_in-is_present}
use Rattle.dns_rdata.proofs.NameLemmas.{map_some, and_then_some, cond_some}
use Rattle.dns_name.specs.Order.{is_same_equiv}
use Rattle.dns_rdata.specs.Numbers.{type_CNAME, type_SOA, type_ANY, class_IN, class_NONE, class_ANY}
use Rattle.dns_rdata.specs.Layout.{layout_of}
use Rattle.dns_rdata.specs.Data.{names_then, data_of, serial_of}
use Rattle.dns_rdata.specs.declared.numbers.RType.{RType}
use Rattle.dns_rdata.specs.Record.{Record, IsLawful, with_record, owner_of, rtype_of, without_data}
use Rattle.dns_rdata.specs.Raw.{RawRecord, ttl_in_zone}
use Rattle.dns_rdata.specs.SerialOrder.{serial_less}
use Rattle.zone_tree.specs.Zone.{IsZone, KeepsRules, is_of, rrset_of, rrsets_of, soa_of, apex_of}
use Rattle.zone_tree.specs.Sets.{AreWhole}
use Rattle.zone_tree.specs.Change.{with_rrset, without_rrset, edited}
use Rattle.zone_tree.specs.Version.{zone_serial, first_data}
use Rattle.zone_tree.specs.declared.change.Change.{Change}
use Rattle.zone_tree.specs.declared.change.Change.TheVariants.{Put, Remove}
use Rattle.zone_tree.proofs.Rising.{filter_alike, each_weaker, each_map}
use Rattle.zone_tree.proofs.LawLemmas.{soa_is_at_apex}
use Rattle.update_core.specs.Verdict.{has_rrset, prescan_of}
use Rattle.update_core.specs.Act.{entered, has_other_than_alias, has_lesser_soa, within_limits, is_apex_set, is_last_apex_record, effect, at_serial, IsSent}
use Rattle.update_core.specs.Applied.{held, AreOf, is_beside_alias, joined, set_behind, may_go, removals}
use Rattle.update_core.proofs.ListLemmas.{by_test, and_left, and_right}
use Rattle.update_core.proofs.VerdictLemmas.{rrset_of-same}
use Rattle.update_core.proofs.SentLemmas.{same_lower, passed}
use Rattle.update_core.proofs.Candidates.{put_in, added_to, without_all, without_set, without_record, Keeps}
use Rattle.update_core.proofs.RowsKeep.{soa_places_of, all_keeps_rules, set_keeps_rules, record_keeps_rules}
use Rattle.update_core.proofs.AddsKeep.{put_keeps_rules, add_keeps_rules}
use Rattle.update_core.proofs.LimitsKept.{not_longer}
use Rattle.update_core.proofs.EditLemmas.{put_edits, add_edits}
use Rattle.update_core.proofs.DeletionEdits.{entered_owner, set_stays, set_edits, record_stays, record_edits, record_empties, all_edits_by_sets}
use Rattle.update_core.proofs.ZoneParts.{of_place, set_parts, before_part, behind_part, each_passes}
use Rattle.update_core.proofs.SerialPut.{serial_edits}
use Rattle.update_core.proofs.RowLemmas.{any_among}

-- what holds of each result
pub if_ok : {A E : Type 0} {P Q : A → Type 0} (r : Result A E) → ((x : A) → P x → Q x) → IfOk r P → IfOk r Q
if_ok (Ok x) f h = f x h
if_ok (Err e) f h = tt

-- the rows, by class and type
pub effect_of_name : (zone : List Record) (r : RawRecord) → r.class ≡ class_ANY → r.rtype ≡ type_ANY → effect zone r ≡ Some (without_all zone r)
effect_of_name zone r class rtype = rw (class, rtype) refl

pub effect_of_set : (zone : List Record) (r : RawRecord) → r.class ≡ class_ANY → (r.rtype == type_ANY) ≡ false → effect zone r ≡ Some (without_set zone r)
effect_of_set zone r class rtype = rw (class, rtype) refl

pub effect_of_record : (zone : List Record) (r : RawRecord) → r.class ≡ class_NONE → effect zone r ≡ Some (without_record zone r)
effect_of_record zone r class = rw class refl

pub effect_of_other : (zone : List Record) (r : RawRecord) → (r.class == class_IN) ≡ false → (r.class == class_ANY) ≡ false → (r.class == class_NONE) ≡ false → effect zone r ≡ Some zone
effect_of_other zone r class any none = rw (class, any, none) refl

-- an added record that stands beside an alias, or is one beside others
apart_by : (t o h : Bool) (zone : List Record) (rest : Option (List Record)) → (t && o) || (not t && h) ≡ true → cond (t && o) (Some zone) (cond (not t && h) (Some zone) rest) ≡ Some zone
apart_by true true h zone rest e = refl
apart_by true false h zone rest e = cc
apart_by false o true zone rest e = refl
apart_by false o false zone rest e = cc

pub effect_beside : (zone : List Record) (r : RawRecord) → (r.class == class_IN) ≡ true → is_beside_alias zone r ≡ true → effect zone r ≡ Some zone
effect_beside zone r class beside = rw class (apart_by (r.rtype == type_CNAME) (has_other_than_alias zone r.owner) (has_rrset zone r.owner type_CNAME) zone _ beside)

both_fail : (a b : Bool) → a || b ≡ false → (a ≡ false) × (b ≡ false)
both_fail true b e = cc
both_fail false b e = (refl, e)

pub effect_lesser : (zone : List Record) (r : RawRecord) → (r.class == class_IN) ≡ true → is_beside_alias zone r ≡ false → r.rtype == type_SOA && not (has_lesser_soa zone r) ≡ true → effect zone r ≡ Some zone
effect_lesser zone r class apart lesser =
    let tests = both_fail (r.rtype == type_CNAME && has_other_than_alias zone r.owner) (not (r.rtype == type_CNAME) && has_rrset zone r.owner type_CNAME) apart in
    rw (class, tests.0, tests.1, lesser) refl

-- and one that is put or joins
abbrev pub next_of : List Record → RawRecord → List Record
next_of zone r = cond (r.rtype == type_CNAME || r.rtype == type_SOA) (put_in zone r) (added_to zone r)

pub effect_of_addition : (zone : List Record) (r : RawRecord) → (r.class == class_IN) ≡ true → is_beside_alias zone r ≡ false → r.rtype == type_SOA && not (has_lesser_soa zone r) ≡ false → effect zone r ≡ within_limits r (next_of zone r)
effect_of_addition zone r class apart greater =
    let tests = both_fail (r.rtype == type_CNAME && has_other_than_alias zone r.owner) (not (r.rtype == type_CNAME) && has_rrset zone r.owner type_CNAME) apart in
    rw (class, tests.0, tests.1, greater) (by (r.rtype == type_CNAME || r.rtype == type_SOA))
  where
    by : (b : Bool) → cond b (within_limits r (put_in zone r)) (within_limits r (added_to zone r)) ≡ within_limits r (cond b (put_in zone r) (added_to zone r))
    by true = refl
    by false = refl

-- the SOA's serial against that of the zone's SOA
lesser_first : (n : ℕ) (soa : List Record) → length soa ≡ 1 → list_any (λ s. serial_less (serial_of s.rdata) n) soa ≡ serial_less (serial_of (first_data soa)) n
lesser_first n [] one = absurd (omega arith)
lesser_first n (s ∷ []) one = or_false (serial_less (serial_of s.rdata) n)
  where
    or_false : (b : Bool) → b || false ≡ b
    or_false true = refl
    or_false false = refl
lesser_first n (s ∷ t ∷ ss) one = absurd (omega arith)

none_elsewhere : (apex name : Name) (zs : List Record) → is_same name apex ≡ false → All (λ s. s.rtype == type_SOA ≡ true → s.owner ≡ apex) zs → rrset_of zs name type_SOA ≡ []
none_elsewhere apex name [] other at = refl
none_elsewhere apex name (z ∷ zs) other at = by (is_of name type_SOA z) refl (none_elsewhere apex name zs other (All-tail (λ s. s.rtype == type_SOA ≡ true → s.owner ≡ apex) z zs at))
  where
    by : (b : Bool) → is_of name type_SOA z ≡ b → rrset_of zs name type_SOA ≡ [] → cond b (z ∷ rrset_of zs name type_SOA) (rrset_of zs name type_SOA) ≡ []
    by false e more = more
    by true e more =
        let here : z.owner ≡ apex = All-head (λ s. s.rtype == type_SOA ≡ true → s.owner ≡ apex) z zs at (and_right (is_same z.owner name) (z.rtype == type_SOA) e) in
        let same : is_same apex name ≡ true = ap (λ o. is_same o name) (sym here) ∙ and_left (is_same z.owner name) (z.rtype == type_SOA) e in
        absurd (let turned = is_same_equiv.symm name apex in cc)

pub lesser_is : (zone : List Record) (r : RawRecord) → IsZone zone → has_lesser_soa zone r ≡ (is_same r.owner (apex_of zone) && serial_less (zone_serial zone) (serial_of (entered r).rdata))
lesser_is zone r h =
    any_among (is_of r.owner type_SOA) lesser zone ∙ by (is_same r.owner (apex_of zone)) refl
  where
    lesser : Record → Bool
    lesser s = serial_less (serial_of s.rdata) (serial_of (entered r).rdata)

    by : (b : Bool) → is_same r.owner (apex_of zone) ≡ b → list_any (λ s. serial_less (serial_of s.rdata) (serial_of (entered r).rdata)) (rrset_of zone r.owner type_SOA) ≡ (b && serial_less (zone_serial zone) (serial_of (entered r).rdata))
    by true e =
        ap (list_any (λ s. serial_less (serial_of s.rdata) (serial_of (entered r).rdata))) (rrset_of-same zone r.owner (apex_of zone) type_SOA e ∙ soa_is_at_apex zone h)
        ∙ lesser_first (serial_of (entered r).rdata) (soa_of zone) h.rules.one_soa
    by false e = ap (list_any (λ s. serial_less (serial_of s.rdata) (serial_of (entered r).rdata))) (none_elsewhere (apex_of zone) r.owner zone e (soa_places_of zone h.rules))

-- a set that is put is all that the zone then has of its owner and type
less_not : (o : Ordering) → is_lt o ≡ true → is_eq o ≡ false
less_not Less e = refl
less_not Equal e = cc
less_not Greater e = cc

more_not : (o : Ordering) → is_gt o ≡ true → is_eq o ≡ false
more_not Less e = cc
more_not Equal e = cc
more_not Greater e = refl

pub first_of : (owner : Name) (rtype : ℕ) (zs : List Record) → 0 < length zs → AllByRecursion (λ s. is_of owner rtype s ≡ true) zs → (is_same (owner_of zs) owner ≡ true) × (rtype_of zs ≡ rtype)
first_of owner rtype [] some h = absurd (omega arith)
first_of owner rtype (z ∷ zs) some h = (and_left (is_same z.owner owner) (z.rtype == rtype) h.0, eqb-true z.rtype rtype (and_right (is_same z.owner owner) (z.rtype == rtype) h.0))

pub own_of_put : (zone set : List Record) (owner : Name) (rtype : ℕ) → 0 < length set → AllByRecursion (λ s. is_of owner rtype s ≡ true) set → rrset_of (with_rrset zone set) owner rtype ≡ set
own_of_put zone set owner rtype some own =
    let at = λ (s : Record). ordering_then (canonical_cmp s.owner owner) (nat_cmp s.rtype rtype) in
    let first = first_of owner rtype set some own in
    let test = is_of owner rtype in
    let front = before_part owner rtype zone in
    let back = behind_part owner rtype zone in
    let none_front : filter test front ≡ [] =
    filter_alike test false front (each_weaker (λ s. is_lt (at s) ≡ true) (λ s. test s ≡ false) (λ s e. of_place owner rtype s ∙ less_not (at s) e) front (each_passes owner rtype (λ s. is_lt (at s)) zone)) in
    let none_back : filter test back ≡ [] =
    filter_alike test false back (each_weaker (λ s. is_gt (at s) ≡ true) (λ s. test s ≡ false) (λ s e. of_place owner rtype s ∙ more_not (at s) e) back (each_passes owner rtype (λ s. is_gt (at s)) zone)) in
    ap (filter test) (set_parts owner rtype zone set first.0 first.1) ∙ filter-append test front (set ++ back) ∙ ap (λ rs. filter test front ++ rs) (filter-append test set back)
    ∙ (λ i. none_front i ++ (filter_alike test true set own i ++ none_back i)) ∙ nothing_behind set
  where
    nothing_behind : (xs : List Record) → xs ++ [] ≡ xs
    nothing_behind [] = refl
    nothing_behind (x ∷ xs) = ap (λ ys. x ∷ ys) (nothing_behind xs)

-- the set that stands behind an added record
each_with_record : (P : Record → Type 0) (x : Record) (rs : List Record) → P x → AllByRecursion P rs → AllByRecursion P (with_record x rs)
each_with_record P x [] here h = (here, tt)
each_with_record P x (r ∷ rs) here h =
    by_test (AllByRecursion P) (is_lt (slice_cmp nat_cmp x.rdata r.rdata)) (x ∷ r ∷ rs) (if is_eq (slice_cmp nat_cmp x.rdata r.rdata) then r ∷ rs else r ∷ with_record x rs)
    (λ _. (here, h))
    (λ _. by_test (AllByRecursion P) (is_eq (slice_cmp nat_cmp x.rdata r.rdata)) (r ∷ rs) (r ∷ with_record x rs) (λ _. h) (λ _. (h.0, each_with_record P x rs here h.1)))

some_with_record : (x : Record) (rs : List Record) → 0 < length (with_record x rs)
some_with_record x [] = omega arith
some_with_record x (r ∷ rs) =
    by_test (λ (l : List Record). 0 < length l) (is_lt (slice_cmp nat_cmp x.rdata r.rdata)) (x ∷ r ∷ rs) (if is_eq (slice_cmp nat_cmp x.rdata r.rdata) then r ∷ rs else r ∷ with_record x rs)
    (λ _. omega arith)
    (λ _. by_test (λ (l : List Record). 0 < length l) (is_eq (slice_cmp nat_cmp x.rdata r.rdata)) (r ∷ rs) (r ∷ with_record x rs) (λ _. omega arith) (λ _. omega arith))

module _ (zone : List Record) (r : RawRecord) where
  abbrev is_own : Record → Type 0
  is_own s = is_of r.owner r.rtype s ≡ true

  abbrev grown : List Record
  grown = with_record (entered r) (map (λ (s : Record). record s { ttl = ttl_in_zone r.ttl }) (rrset_of zone r.owner r.rtype))

  own_entered : is_own (entered r)
  own_entered = let same = same_lower r.owner in rw same ((Decides-eqb r.rtype r.rtype).1 refl)

  own_grown : AllByRecursion is_own grown
  own_grown =
      each_with_record is_own (entered r) (map (λ (s : Record). record s { ttl = ttl_in_zone r.ttl }) (rrset_of zone r.owner r.rtype)) own_entered
      (each_map is_own (λ (s : Record). record s { ttl = ttl_in_zone r.ttl }) (rrset_of zone r.owner r.rtype) (each_passes r.owner r.rtype (is_of r.owner r.rtype) zone))

  pub own_behind : AllByRecursion is_own (set_behind zone r)
  own_behind = by_test (AllByRecursion is_own) (r.rtype == type_CNAME || r.rtype == type_SOA) (entered r ∷ []) grown (λ _. (own_entered, tt)) (λ _. own_grown)

  pub some_behind : 0 < length (set_behind zone r)
  some_behind = by_test (λ (l : List Record). 0 < length l) (r.rtype == type_CNAME || r.rtype == type_SOA) (entered r ∷ []) grown (λ _. omega arith) (λ _. some_with_record (entered r) _)

  -- the zone with it
  pub next_is : KeepsRules zone → next_of zone r ≡ with_rrset zone (set_behind zone r)
  next_is h = by (r.rtype == type_CNAME || r.rtype == type_SOA)
    where
      by : (b : Bool) → cond b (put_in zone r) (added_to zone r) ≡ with_rrset zone (cond b (entered r ∷ []) grown)
      by true = put_edits zone r h.ascending
      by false = add_edits zone r h.ascending

  next_own : KeepsRules zone → rrset_of (next_of zone r) r.owner r.rtype ≡ set_behind zone r
  next_own h = ap (λ next. rrset_of next r.owner r.rtype) (next_is h) ∙ own_of_put zone (set_behind zone r) r.owner r.rtype some_behind own_behind

  -- where a limit is passed
  pub too_long : KeepsRules zone → 4096 < length r.octets → within_limits r (next_of zone r) ≡ None
  too_long h long = let t : nat_lt 4096 (length r.octets) ≡ true = grind (arith, nat_tests) in rw t refl

  pub too_many : KeepsRules zone → 256 < length (set_behind zone r) → within_limits r (next_of zone r) ≡ None
  too_many h many =
      let len = ap length (next_own h) in
      let t : nat_lt 256 (length (rrset_of (next_of zone r) r.owner r.rtype)) ≡ true = grind (arith, nat_tests) in
      or_true (nat_lt 4096 (length r.octets)) (nat_lt 256 (length (rrset_of (next_of zone r) r.owner r.rtype))) (nat_lt 1000000 (length (next_of zone r))) t
    where
      or_true : (a b c : Bool) → b ≡ true → cond (a || b || c) None (Some (next_of zone r)) ≡ None
      or_true true b c e = refl
      or_true false true c e = refl
      or_true false false c e = cc

  -- where none but that of the zone's records can be
  pub fits : KeepsRules zone → length r.octets ≤ 4096 → length (set_behind zone r) ≤ 256 → within_limits r (next_of zone r) ≡ held (next_of zone r)
  fits h short few =
      let len = ap length (next_own h) in
      let a : nat_lt 4096 (length r.octets) ≡ false = grind (arith, nat_tests) in
      let b : nat_lt 256 (length (rrset_of (next_of zone r) r.owner r.rtype)) ≡ false = grind (arith, nat_tests) in
      rw (a, b) refl

  other_fails : (a b : Bool) → not a && b ≡ false → a ≡ false → b ≡ false
  other_fails true b e is = cc
  other_fails false b e is = e

  keeps : KeepsRules zone → IsSent r → prescan_of zone r ≡ None → (r.class == class_IN) ≡ true → is_beside_alias zone r ≡ false → r.rtype == type_SOA && not (has_lesser_soa zone r) ≡ false → Keeps zone (next_of zone r)
  keeps h sent scanned class apart greater =
      let tests = both_fail (r.rtype == type_CNAME && has_other_than_alias zone r.owner) (not (r.rtype == type_CNAME) && has_rrset zone r.owner type_CNAME) apart in
      by_test (Keeps zone) (r.rtype == type_CNAME || r.rtype == type_SOA) (put_in zone r) (added_to zone r)
      (λ one. put_keeps_rules zone r h sent scanned (record { class = class; one = one; no_other = tests.0; no_alias = tests.1; lesser = greater }))
      (λ many. add_keeps_rules zone r h sent scanned (record { class = class; many = many; no_alias = other_fails (r.rtype == type_CNAME) (has_rrset zone r.owner type_CNAME) tests.1 (both_fail (r.rtype == type_CNAME) (r.rtype == type_SOA) many).0 }))

  pub addition_of : IsZone zone → IsSent r → prescan_of zone r ≡ None → (r.class == class_IN) ≡ true → is_beside_alias zone r ≡ false → r.rtype == type_SOA && not (has_lesser_soa zone r) ≡ false → length r.octets ≤ 4096 → (set : List Record) → length set ≤ 256 → set ≡ set_behind zone r
      → (changes : List Change) → changes ≡ Put set ∷ [] → AreOf zone r changes
  addition_of h sent scanned class apart greater short set few own changes is =
      let kept = keeps h.rules sent scanned class apart greater in
      let next : edited zone changes ≡ next_of zone r = ap (edited zone) is ∙ ap (with_rrset zone) own ∙ sym (next_is h.rules) in
      let len = ap length own in
      record {
        rules = rw next kept.rules;
        apex = rw next kept.apex;
        effect = effect_of_addition zone r class apart greater ∙ fits h.rules short (omega arith) ∙ ap held (sym next);
      }

  -- changes that change nothing, and those of deletions
  pub held_is : (next : List Record) → length next ≤ 1000000 → held next ≡ Some next
  held_is next few = let t : nat_lt 1000000 (length next) ≡ false = grind (arith, nat_tests) in rw t refl

  pub nothing_of : IsZone zone → effect zone r ≡ Some zone → (changes : List Change) → changes ≡ [] → AreOf zone r changes
  nothing_of h same changes is =
      let next : edited zone changes ≡ zone = ap (edited zone) is in
      record {
        rules = rw next h.rules;
        apex = rw next refl;
        effect = same ∙ sym (held_is zone h.limits.few) ∙ ap held (sym next);
      }

  deletion_of : (next : List Record) → Keeps zone next → length next ≤ length zone → IsZone zone → effect zone r ≡ Some next → (changes : List Change) → edited zone changes ≡ next → AreOf zone r changes
  deletion_of next kept few h does changes is =
      let most = h.limits.few in
      let less : length next ≤ 1000000 = omega arith in
      record {
        rules = rw is kept.rules;
        apex = rw is kept.apex;
        effect = does ∙ sym (held_is next less) ∙ ap held (sym is);
      }

  pub name_of : IsZone zone → r.class ≡ class_ANY → r.rtype ≡ type_ANY → (sets : List (List Record)) → flat_map (λ set. set) sets ≡ rrsets_of zone r.owner → AreWhole zone sets
      → (changes : List Change) → changes ≡ removals r.owner (filter (may_go zone r.owner) sets) → AreOf zone r changes
  name_of h class rtype sets own whole changes is =
      deletion_of (without_all zone r) (all_keeps_rules zone r h.rules) (not_longer _ zone) h (effect_of_name zone r class rtype) changes (ap (edited zone) is ∙ sym (all_edits_by_sets zone r sets own whole))

  removed : (owner : Name) (rtype : RType) (changes : List Change) → owner ≡ r.owner → rtype.0 ≡ r.rtype → changes ≡ Remove owner rtype ∷ [] → edited zone changes ≡ without_rrset zone r.owner r.rtype
  removed owner rtype changes o t is = ap (edited zone) is ∙ (λ i. without_rrset zone (o i) (t i))

  pub set_of : IsZone zone → r.class ≡ class_ANY → (r.rtype == type_ANY) ≡ false → is_apex_set zone r.owner r.rtype ≡ false
      → (owner : Name) (rtype : RType) (changes : List Change) → owner ≡ r.owner → rtype.0 ≡ r.rtype → changes ≡ Remove owner rtype ∷ [] → AreOf zone r changes
  set_of h class other apart owner rtype changes o t is =
      deletion_of (without_set zone r) (set_keeps_rules zone r h.rules) (not_longer _ zone) h (effect_of_set zone r class other) changes (removed owner rtype changes o t is ∙ sym (set_edits zone r apart))

  pub set_kept : IsZone zone → r.class ≡ class_ANY → (r.rtype == type_ANY) ≡ false → is_apex_set zone r.owner r.rtype ≡ true → (changes : List Change) → changes ≡ [] → AreOf zone r changes
  set_kept h class other apex changes is = nothing_of h (effect_of_set zone r class other ∙ ap Some (set_stays zone r apex)) changes is

  abbrev left : List Record
  left = without_data (rrset_of zone r.owner r.rtype) r.octets

  pub record_kept : IsZone zone → r.class ≡ class_NONE → is_last_apex_record zone r.owner r.rtype ≡ true → (changes : List Change) → changes ≡ [] → AreOf zone r changes
  record_kept h class last changes is = nothing_of h (effect_of_record zone r class ∙ ap Some (record_stays zone r last)) changes is

  pub record_of : IsZone zone → r.class ≡ class_NONE → is_last_apex_record zone r.owner r.rtype ≡ false → (set : List Record) → set ≡ left → left ≢ [] → (changes : List Change) → changes ≡ Put set ∷ [] → AreOf zone r changes
  record_of h class last set own some changes is =
      deletion_of (without_record zone r) (record_keeps_rules zone r h.rules) (not_longer _ zone) h (effect_of_record zone r class) changes
      (ap (edited zone) is ∙ ap (with_rrset zone) own ∙ sym (record_edits zone r h.rules.ascending last some))

  pub last_of : IsZone zone → r.class ≡ class_NONE → is_last_apex_record zone r.owner r.rtype ≡ false → left ≡ []
      → (owner : Name) (rtype : RType) (changes : List Change) → owner ≡ r.owner → rtype.0 ≡ r.rtype → changes ≡ Remove owner rtype ∷ [] → AreOf zone r changes
  last_of h class last none owner rtype changes o t is =
      deletion_of (without_record zone r) (record_keeps_rules zone r h.rules) (not_longer _ zone) h (effect_of_record zone r class) changes
      (removed owner rtype changes o t is ∙ sym (record_empties zone r h.rules.ascending last none))

-- another serial
pub serial_change : (n : ℕ) (zone set : List Record) (changes : List Change) → KeepsRules zone → changes ≡ Put set ∷ [] → set ≡ at_serial n (soa_of zone) → edited zone changes ≡ at_serial n zone
serial_change n zone set changes h is own = ap (edited zone) is ∙ ap (with_rrset zone) own ∙ sym (serial_edits n zone h)

-- the zone that changes make is what the effect makes
pub after_is : (zone : List Record) (r : RawRecord) (changes : List Change) (next : List Record) → AreOf zone r changes → next ≡ edited zone changes → length next ≤ 1000000 → effect zone r ≡ Some next
after_is zone r changes next of is few = of.effect ∙ ap held (sym is) ∙ held_is zone r next few

pub after_limit : (zone : List Record) (r : RawRecord) (changes : List Change) → AreOf zone r changes → 1000000 < length (edited zone changes) → effect zone r ≡ None
after_limit zone r changes of many =
    let t : nat_lt 1000000 (length (edited zone changes)) ≡ true = grind (arith, nat_tests) in
    of.effect ∙ rw t refl

-- a set with the added record is the one that stands behind it
rtype_of_rrset : (zone : List Record) (owner : Name) (rtype : ℕ) → rrset_of zone owner rtype ≢ [] → rtype_of (rrset_of zone owner rtype) ≡ rtype
rtype_of_rrset zone owner rtype some = (first_of owner rtype (rrset_of zone owner rtype) (longer_than (rrset_of zone owner rtype) some) (each_passes owner rtype (is_of owner rtype) zone)).1
  where
    longer_than : (xs : List Record) → xs ≢ [] → 0 < length xs
    longer_than [] h = absurd (h refl)
    longer_than (x ∷ xs) h = omega arith

pub own_rtype : (zone : List Record) (r : RawRecord) (own : List Record) → own ≡ rrset_of zone r.owner r.rtype → own ≢ [] → rtype_of own ≡ r.rtype
own_rtype zone r own is some = ap rtype_of is ∙ rtype_of_rrset zone r.owner r.rtype (λ e. some (is ∙ e))

neither_test : (a b : Bool) → true ≡ not a → true ≡ not b → a || b ≡ false
neither_test true b e f = cc
neither_test false true e f = cc
neither_test false false e f = refl

pub joined_is : (zone : List Record) (r : RawRecord) (own : List Record) (ttl : ℕ) (octets : List ℕ) → All IsLawful zone → own ≡ rrset_of zone r.owner r.rtype → own ≢ [] → true ≡ not (r.rtype == type_CNAME) → true ≡ not (r.rtype == type_SOA)
    → ttl ≡ ttl_in_zone r.ttl → octets ≡ (entered r).rdata → joined own ttl octets ≡ set_behind zone r
joined_is zone r own ttl octets lawful is some alias soa lasts same =
    let test : (r.rtype == type_CNAME || r.rtype == type_SOA) ≡ false = neither_test (r.rtype == type_CNAME) (r.rtype == type_SOA) alias soa in
    let owner = ap owner_of is ∙ entered_owner zone r lawful (λ e. some (is ∙ e)) in
    let rtype = own_rtype zone r own is some in
    (λ i. let x : Record = record { owner = owner i; rtype = rtype i; ttl = lasts i; rdata = same i } in with_record x (map (λ (s : Record). record s { ttl = lasts i }) (is i)))
    ∙ ap (λ b. cond b (entered r ∷ []) (with_record (entered r) (map (λ (s : Record). record s { ttl = ttl_in_zone r.ttl }) (rrset_of zone r.owner r.rtype)))) (sym test)

-- a record alone where none stood, or where an alias or an SOA takes the place of another
pub alone_is : (zone : List Record) (r : RawRecord) (set : List Record) → set ≡ entered r ∷ [] → rrset_of zone r.owner r.rtype ≡ [] ⊎ ((r.rtype == type_CNAME || r.rtype == type_SOA) ≡ true) → set ≡ set_behind zone r
alone_is zone r set is (inl none) = is ∙ by (r.rtype == type_CNAME || r.rtype == type_SOA)
  where
    by : (b : Bool) → entered r ∷ [] ≡ cond b (entered r ∷ []) (with_record (entered r) (map (λ (s : Record). record s { ttl = ttl_in_zone r.ttl }) (rrset_of zone r.owner r.rtype)))
    by true = refl
    by false = sym (ap (λ rs. with_record (entered r) (map (λ (s : Record). record s { ttl = ttl_in_zone r.ttl }) rs)) none)
alone_is zone r set is (inr one) = is ∙ ap (λ b. cond b (entered r ∷ []) (with_record (entered r) (map (λ (s : Record). record s { ttl = ttl_in_zone r.ttl }) (rrset_of zone r.owner r.rtype)))) (sym one)

-- data of an SOA are never too long
soa_short : (octets own : List ℕ) → data_of 6 octets ≡ Some own → length octets ≤ 530
unfolding data_of layout_of
soa_short octets own e =
    let test = cond_some (nat_le 0 (length octets)) _ own e in
    let rest = map_some _ (names_then 2 20 (drop 0 octets)) own test.1 in
    let first = and_then_some _ (name_in octets) rest.0 rest.1 in
    let after = drop (length (wire_of first.0)) octets in
    let behind = map_some _ (names_then 1 20 after) rest.0 first.2 in
    let second = and_then_some _ (name_in after) behind.0 behind.1 in
    let numbers = drop (length (wire_of second.0)) after in
    let last = map_some _ (names_then 0 20 numbers) behind.0 second.2 in
    let size = (Decides-eqb (length numbers) 20).0 (cond_some _ (Some numbers) last.0 last.1).0 in
    let front = name_in-is_present octets first.0 first.1 in
    let middle = name_in-is_present after second.0 second.1 in
    let whole = ap length front.1 in
    let part = ap length middle.1 in
    let a = front.0.short in
    let b = middle.0.short in
    omega (arith, length-append (wire_of first.0) after, length-append (wire_of second.0) numbers)

pub addition_too_long : (zone : List Record) (r : RawRecord) → KeepsRules zone → prescan_of zone r ≡ None → (r.class == class_IN) ≡ true → is_beside_alias zone r ≡ false → 4096 < length r.octets → effect zone r ≡ None
addition_too_long zone r h scanned class apart long = by (r.rtype == type_SOA && not (has_lesser_soa zone r)) refl
  where
    found : (o : Option (List ℕ)) → is_some o ≡ true → (own : List ℕ) × (o ≡ Some own)
    found None e = cc
    found (Some own) e = (own, refl)

    by : (b : Bool) → r.rtype == type_SOA && not (has_lesser_soa zone r) ≡ b → effect zone r ≡ None
    by false e = effect_of_addition zone r class apart e ∙ too_long zone r h long
    by true e =
        let typed = eqb-true r.rtype type_SOA (and_left (r.rtype == type_SOA) (not (has_lesser_soa zone r)) e) in
        let own = found (data_of r.rtype r.octets) (passed zone r scanned class).form in
        let short = soa_short r.octets own.0 (ap (λ t. data_of t r.octets) (sym typed) ∙ own.1) in
        absurd (omega arith)

pub addition_too_many : (zone : List Record) (r : RawRecord) → KeepsRules zone → (r.class == class_IN) ≡ true → is_beside_alias zone r ≡ false → r.rtype == type_SOA && not (has_lesser_soa zone r) ≡ false → 256 < length (set_behind zone r) → effect zone r ≡ None
addition_too_many zone r h class apart greater many = effect_of_addition zone r class apart greater ∙ too_many zone r h many

pub lesser_by : (zone : List Record) (r : RawRecord) (octets : List ℕ) → IsZone zone → octets ≡ (entered r).rdata → (b : Bool) → b ≡ (is_same r.owner (apex_of zone) && serial_less (zone_serial zone) (serial_of octets)) → b ≡ has_lesser_soa zone r
lesser_by zone r octets h own b is = is ∙ ap (λ os. is_same r.owner (apex_of zone) && serial_less (zone_serial zone) (serial_of os)) own ∙ sym (lesser_is zone r h)

pub nothing_in : {X : Type 0} (xs : List X) → length xs ≡ 0 → xs ≡ []
nothing_in [] none = refl
nothing_in (x ∷ xs) none = absurd (omega arith)
