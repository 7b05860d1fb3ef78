-- A record of an update changes nothing beside its owner.
use Rattle.std.proofs.Common.{◌≡◌, ℕ, Bool, true, false, not, ◌&&◌, ◌||◌, ◌==◌, cond, if◌then◌else◌, nat_lt, List, [], ◌∷◌, length, filter, Option, None, Some, bytes_eq, refl, sym, ap, ◌∙◌}
use Rattle.std.specs.List.{list_any}
use Rattle.std.specs.Option.{IfSome, option_and_then}
use Rattle.std.specs.Ordering.{is_lt, is_eq}
use Rattle.dns_name.specs.Name.{Name, fold_name, is_same}
use Rattle.dns_name.specs.Order.{is_same_Decides, is_same_equiv}
use Rattle.dns_rdata.proofs.NameLemmas.{fold_name-fold_name}
use Rattle.dns_rdata.specs.Numbers.{type_CNAME, type_SOA, type_ANY, class_IN, class_NONE, class_ANY}
use Rattle.dns_rdata.specs.Record.{Record, record_cmp}
use Rattle.dns_rdata.specs.Raw.{RawRecord, ttl_in_zone}
use Rattle.zone_tree.specs.Zone.{is_of, stands_at, rrset_of}
use Rattle.zone_tree.specs.Change.{without_rrset}
use Rattle.update_core.specs.Verdict.{has_rrset}
use Rattle.update_core.specs.Act.{entered, with_one, with_ttl, has_other_than_alias, has_lesser_soa, within_limits, is_apex_set, is_last_apex_record, effect, effects}
use Rattle.update_core.proofs.ListLemmas.{by_test, and_left}

-- the records whose owners pass a test
abbrev pub kept : (Name → Bool) → List Record → List Record
kept q zone = filter (λ s. q s.owner) zone

-- a test of owners that a name fails, however it is spelt
abbrev pub Misses : (Name → Bool) → Name → Type 0
Misses q name = (n : Name) → is_same n name ≡ true → q n ≡ false

-- a filter that drops nothing of what another keeps
module _ (q p : Record → Bool) (inside : (s : Record) → p s ≡ false → q s ≡ false) where
  kept_first : (z : Record) (zs : List Record) (b : Bool) → p z ≡ b → filter q (filter p zs) ≡ filter q zs → filter q (cond b (z ∷ filter p zs) (filter p zs)) ≡ filter q (z ∷ zs)
  kept_first z zs true e more = ap (λ ys. cond (q z) (z ∷ ys) ys) more
  kept_first z zs false e more = more ∙ ap (λ b. cond b (z ∷ filter q zs) (filter q zs)) (sym (inside z e))

  pub kept_inside : (zs : List Record) → filter q (filter p zs) ≡ filter q zs
  kept_inside [] = refl
  kept_inside (z ∷ zs) = kept_first z zs (p z) refl (kept_inside zs)

-- one record more at an owner that fails the test
one_beside : (q : Name → Bool) (r : Record) → q r.owner ≡ false → (zs : List Record) → kept q (with_one r zs) ≡ kept q zs
one_beside q r misses [] = ap (λ b. cond b (r ∷ []) []) misses
one_beside q r misses (z ∷ zs) =
    by_test (λ (rs : List Record). kept q rs ≡ kept q (z ∷ zs)) (is_lt (record_cmp r z)) (r ∷ z ∷ zs) (if is_eq (record_cmp r z) then z ∷ zs else z ∷ with_one r zs)
    (λ _. ap (λ b. cond b (r ∷ kept q (z ∷ zs)) (kept q (z ∷ zs))) misses)
    (λ _. by_test (λ (rs : List Record). kept q rs ≡ kept q (z ∷ zs)) (is_eq (record_cmp r z)) (z ∷ zs) (z ∷ with_one r zs)
    (λ _. refl)
    (λ _. ap (λ ys. cond (q z.owner) (z ∷ ys) ys) (one_beside q r misses zs)))

-- another TTL at an owner that fails the test
module _ (q : Name → Bool) (owner : Name) (rtype ttl : ℕ) (misses : Misses q owner) where
  ttl_first : (z : Record) (ys : List Record) (b : Bool) → is_of owner rtype z ≡ b → (let own : Record = record z { ttl = ttl } in cond (q (cond b own z).owner) (cond b own z ∷ ys) ys) ≡ cond (q z.owner) (z ∷ ys) ys
  ttl_first z ys true e = let no = misses z.owner (and_left (is_same z.owner owner) (z.rtype == rtype) e) in rw no refl
  ttl_first z ys false e = refl

  ttl_beside : (zs : List Record) → kept q (with_ttl zs owner rtype ttl) ≡ kept q zs
  ttl_beside [] = refl
  ttl_beside (z ∷ zs) = ttl_first z (kept q (with_ttl zs owner rtype ttl)) (is_of owner rtype z) refl ∙ ap (λ ys. cond (q z.owner) (z ∷ ys) ys) (ttl_beside zs)

-- what is dropped stands at the owner
of_not : (a : Bool) → not a ≡ false → a ≡ true
of_not true e = refl
of_not false e = absurd (cc)

dropped : (a b : Bool) → (not a || b) ≡ false → a ≡ true
dropped true b e = refl
dropped false b e = absurd (cc)

-- an owner in lower case is the same
misses_lower : (q : Name → Bool) (name : Name) → Misses q name → q (fold_name name) ≡ false
misses_lower q name misses = misses (fold_name name) ((is_same_Decides (fold_name name) name).1 (fold_name-fold_name name))

abbrev Beside : (Name → Bool) → List Record → Option (List Record) → Type 0
Beside q zone o = IfSome o (λ next. kept q next ≡ kept q zone)

within_beside : (q : Name → Bool) (r : RawRecord) (zone next : List Record) → kept q next ≡ kept q zone → Beside q zone (within_limits r next)
within_beside q r zone next same =
    by_test (Beside q zone) (nat_lt 4096 (length r.octets) || nat_lt 256 (length (rrset_of next r.owner r.rtype)) || nat_lt 1000000 (length next)) None (Some next) (λ _. tt) (λ _. same)

pub effect_beside : (q : Name → Bool) (zone : List Record) (r : RawRecord) → Misses q r.owner → Beside q zone (effect zone r)
effect_beside q zone r misses =
    let del_one = filter (λ s. not (is_of r.owner r.rtype s && bytes_eq r.octets s.rdata) || is_last_apex_record zone s.owner s.rtype) zone in
    let del_set = filter (λ s. not (is_of r.owner r.rtype s) || is_apex_set zone s.owner s.rtype) zone in
    let del_all = filter (λ s. not (stands_at r.owner s) || is_apex_set zone s.owner s.rtype) zone in
    let joined = within_limits r (with_one (entered r) (with_ttl zone r.owner r.rtype (ttl_in_zone r.ttl))) in
    let replaced = within_limits r (with_one (entered r) (without_rrset zone r.owner r.rtype)) in
    let e8 : Option (List Record) = if r.class == class_NONE then Some del_one else Some zone in
    let e7 : Option (List Record) = if r.class == class_ANY then Some del_set else e8 in
    let e6 : Option (List Record) = if r.class == class_ANY && r.rtype == type_ANY then Some del_all else e7 in
    let e5 : Option (List Record) = if r.class == class_IN then joined else e6 in
    let e4 : Option (List Record) = if r.class == class_IN && (r.rtype == type_CNAME || r.rtype == type_SOA) then replaced else e5 in
    let e3 : Option (List Record) = if r.class == class_IN && r.rtype == type_SOA && not (has_lesser_soa zone r) then Some zone else e4 in
    let e2 : Option (List Record) = if r.class == class_IN && not (r.rtype == type_CNAME) && has_rrset zone r.owner type_CNAME then Some zone else e3 in
    by_test (Beside q zone) (r.class == class_IN && r.rtype == type_CNAME && has_other_than_alias zone r.owner) (Some zone) e2 (λ _. refl)
    (λ _. by_test (Beside q zone) (r.class == class_IN && not (r.rtype == type_CNAME) && has_rrset zone r.owner type_CNAME) (Some zone) e3 (λ _. refl)
    (λ _. by_test (Beside q zone) (r.class == class_IN && r.rtype == type_SOA && not (has_lesser_soa zone r)) (Some zone) e4 (λ _. refl)
    (λ _. by_test (Beside q zone) (r.class == class_IN && (r.rtype == type_CNAME || r.rtype == type_SOA)) replaced e5
    (λ _. within_beside q r zone _ (one_beside q (entered r) (misses_lower q r.owner misses) (without_rrset zone r.owner r.rtype)
    ∙ kept_inside (λ s. q s.owner) (λ s. not (is_of r.owner r.rtype s)) (λ s e. misses s.owner (and_left (is_same s.owner r.owner) (s.rtype == r.rtype) (of_not (is_of r.owner r.rtype s) e))) zone))
    (λ _. by_test (Beside q zone) (r.class == class_IN) joined e6
    (λ _. within_beside q r zone _ (one_beside q (entered r) (misses_lower q r.owner misses) (with_ttl zone r.owner r.rtype (ttl_in_zone r.ttl)) ∙ ttl_beside q r.owner r.rtype (ttl_in_zone r.ttl) misses zone))
    (λ _. by_test (Beside q zone) (r.class == class_ANY && r.rtype == type_ANY) (Some del_all) e7
    (λ _. kept_inside (λ s. q s.owner) (λ s. not (stands_at r.owner s) || is_apex_set zone s.owner s.rtype) (λ s e. misses s.owner (dropped (stands_at r.owner s) (is_apex_set zone s.owner s.rtype) e)) zone)
    (λ _. by_test (Beside q zone) (r.class == class_ANY) (Some del_set) e8
    (λ _. kept_inside (λ s. q s.owner) (λ s. not (is_of r.owner r.rtype s) || is_apex_set zone s.owner s.rtype) (λ s e. misses s.owner (and_left (is_same s.owner r.owner) (s.rtype == r.rtype) (dropped (is_of r.owner r.rtype s) (is_apex_set zone s.owner s.rtype) e))) zone)
    (λ _. by_test (Beside q zone) (r.class == class_NONE) (Some del_one) (Some zone)
    (λ _. kept_inside (λ s. q s.owner) (λ s. not (is_of r.owner r.rtype s && bytes_eq r.octets s.rdata) || is_last_apex_record zone s.owner s.rtype)
    (λ s e. misses s.owner (and_left (is_same s.owner r.owner) (s.rtype == r.rtype) (and_left (is_of r.owner r.rtype s) (bytes_eq r.octets s.rdata) (dropped (is_of r.owner r.rtype s && bytes_eq r.octets s.rdata) (is_last_apex_record zone s.owner s.rtype) e)))) zone)
    (λ _. refl))))))))

-- and so does an update's list of them, at the names that none of them stands at
abbrev pub is_beside : List RawRecord → Name → Bool
is_beside rs name = not (list_any (λ r. is_same r.owner name) rs)

then_beside : (q : Name → Bool) (zone : List Record) (rs : List RawRecord) (o : Option (List Record)) → Beside q zone o → ((next : List Record) → Beside q next (effects next rs)) → Beside q zone (option_and_then (λ next. effects next rs) o)
then_beside q zone rs None h more = tt
then_beside q zone rs (Some next) h more = follows (effects next rs) (more next)
  where
    follows : (o : Option (List Record)) → Beside q next o → Beside q zone o
    follows None m = tt
    follows (Some last) m = m ∙ h

effects_miss : (q : Name → Bool) (zone : List Record) (rs : List RawRecord) → ((n : Name) → q n ≡ true → is_beside rs n ≡ true) → Beside q zone (effects zone rs)
effects_miss q zone [] inside = refl
effects_miss q zone (r ∷ rs) inside =
    then_beside q zone rs (effect zone r) (effect_beside q zone r (λ n same. missed n (q n) refl same)) (λ next. effects_miss q next rs (λ n pass. behind n (inside n pass)))
  where
    behind : (n : Name) → is_beside (r ∷ rs) n ≡ true → is_beside rs n ≡ true
    behind n e = later (is_same r.owner n) (list_any (λ s. is_same s.owner n) rs) e
      where
        later : (a b : Bool) → not (a || b) ≡ true → not b ≡ true
        later true b e = absurd (cc)
        later false b e = e

    missed : (n : Name) (b : Bool) → q n ≡ b → is_same n r.owner ≡ true → b ≡ false
    missed n false e same = refl
    missed n true e same = here (is_same r.owner n) (list_any (λ s. is_same s.owner n) rs) (inside n e) (is_same_equiv.symm r.owner n ∙ same)
      where
        here : (a b : Bool) → not (a || b) ≡ true → a ≡ true → true ≡ false
        here true b e same = absurd (cc)
        here false b e same = absurd (cc)

pub effects_beside : (zone : List Record) (rs : List RawRecord) → IfSome (effects zone rs) (λ next. kept (is_beside rs) next ≡ kept (is_beside rs) zone)
effects_beside zone rs = effects_miss (is_beside rs) zone rs (λ n e. e)
