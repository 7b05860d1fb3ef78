-- What stands at a name, behind it and below it, by the owners of the sets.
use Rattle.std.proofs.Common.{◌≡◌, refl, sym, ap, ◌∙◌, subst, ℕ, ◌<◌, Bool, true, false, ◌||◌, cond, List, [], ◌∷◌, ◌++◌, length, arith, append-nil, true≢false, Option, Some, None, Bor}
use Rattle.std.specs.declared.cmp.Ordering.{Ordering}
use Rattle.std.specs.declared.cmp.Ordering.TheVariants.{Less, Equal, Greater}
use Rattle.std.specs.List.{filter, find, list_any, AllByRecursion}
use Rattle.std.specs.Prelude.{◌==◌}
use Rattle.std.specs.Option.{option_map, option_to_list, option_copied, is_some, MatchOption}
use Rattle.std.specs.Ordering.{is_lt, is_gt, is_eq, ordering_reverse}
use Rattle.std.specs.Cmp.{Equal-is}
use Rattle.std.proofs.lemmas.List.Elements.{filter-append}
use Rattle.std.proofs.lemmas.List.Folds.{list_any-append}
use Rattle.dns_name.specs.Name.{is_same, is_under, canonical_cmp}
use Rattle.dns_name.specs.Order.{is_same_equiv, is_same_tied}
use Rattle.dns_rdata.specs.Numbers.{type_SOA}
use Rattle.dns_rdata.specs.Record.{Record, owner_of, rtype_of}
use Rattle.shared_tree.specs.Pairs.{IsAscending, value_at, pair_at, pair_after}
use Rattle.shared_tree.proofs.PairLemmas.{none_at_below}
use Rattle.zone_tree.specs.Zone.{rrsets_of, rrset_of, exists, soa_of}
use Rattle.zone_tree.specs.Sets.{records_in, AreWhole}
use Rattle.zone_tree.specs.Filed.{Own, Filed, sets_under, records_under, IsFiled, AreFiled, AreKept, items_of}
use Rattle.zone_tree.proofs.NameOrder.{canonical_total, folds_from_same, under_from_front, under_between}
use Rattle.zone_tree.proofs.Rising.{filter_alike, any_alike, each_weaker, Rises, filter_one}
use Rattle.zone_tree.proofs.SetLemmas.{filter_by_sets, any_by_sets}
use Rattle.zone_tree.proofs.LookLemmas.{lt_not_under, rrset_found}
use Rattle.zone_tree.proofs.LawLemmas.{soa_is_at_apex}
use Rattle.zone_tree.proofs.ZoneLemmas.{kept_whole}

-- a name ties with another exactly where the other is the same
pub ties : (name other : List (List ℕ)) → is_eq (canonical_cmp name other) ≡ is_same other name
ties name other = sym (is_same_equiv.symm other name ∙ is_same_tied name other)

-- a test of owners keeps the sets of the owners that it keeps, and passes at one where it passes at one of them
module _ (t : List (List ℕ) → Bool) where
  alike : (b : Bool) (name : List (List ℕ)) (sets : List (List Record)) → t name ≡ b → AllByRecursion (λ set. owner_of set ≡ name) sets → AllByRecursion (λ set. t (owner_of set) ≡ b) sets
  alike b name sets e own = each_weaker (λ set. owner_of set ≡ name) (λ set. t (owner_of set) ≡ b) (λ set o. ap t o ∙ e) sets own

  pub filter_under : (pairs : List Filed) → AllByRecursion IsFiled pairs → filter (λ set. t (owner_of set)) (sets_under pairs) ≡ sets_under (filter (λ pair. t pair.0) pairs)
  filter_under [] h = refl
  filter_under (pair ∷ pairs) h =
      filter-append (λ set. t (owner_of set)) pair.1.items (sets_under pairs)
      ∙ rw (filter_alike (λ set. t (owner_of set)) (t pair.0) pair.1.items (alike (t pair.0) pair.0 pair.1.items refl h.0.own), filter_under pairs h.1) (pick (t pair.0))
    where
      pick : (b : Bool) → cond b pair.1.items [] ++ sets_under (filter (λ p. t p.0) pairs) ≡ sets_under (cond b (pair ∷ filter (λ p. t p.0) pairs) (filter (λ p. t p.0) pairs))
      pick true = refl
      pick false = refl

  pub any_under : (pairs : List Filed) → AllByRecursion IsFiled pairs → list_any (λ set. t (owner_of set)) (sets_under pairs) ≡ list_any (λ pair. t pair.0) pairs
  any_under [] h = refl
  any_under (pair ∷ pairs) h =
      list_any-append (λ set. t (owner_of set)) pair.1.items (sets_under pairs)
      ∙ rw (any_alike (λ set. t (owner_of set)) (t pair.0) pair.1.items h.0.some (alike (t pair.0) pair.0 pair.1.items refl h.0.own), any_under pairs h.1) refl

-- owners differ
apart_by : (o : Bool) (name : List (List ℕ)) (p q : Filed) → is_eq (canonical_cmp name p.0) ≡ o → canonical_cmp p.0 q.0 ≡ Less → o ≡ true → is_eq (canonical_cmp name q.0) ≡ false
apart_by o name p q e less tied = ap is_eq (canonical_total.congr name p.0 q.0 ((Equal-is (canonical_cmp name p.0)).0 (e ∙ tied)) ∙ less)

one_owner : (name : List (List ℕ)) (pairs : List Filed) → IsAscending canonical_cmp pairs → Rises (λ p q. is_eq (canonical_cmp name p.0) ≡ true → is_eq (canonical_cmp name q.0) ≡ false) pairs
one_owner name [] h = tt
one_owner name (pair ∷ pairs) h = (
  each_weaker (λ q. canonical_cmp pair.0 q.0 ≡ Less) (λ q. is_eq (canonical_cmp name pair.0) ≡ true → is_eq (canonical_cmp name q.0) ≡ false) (λ q less e. apart_by true name pair q e less refl) pairs h.0,
  one_owner name pairs h.1,
)

sets_of_one : (o : Option Filed) → sets_under (option_to_list o) ≡ items_of (option_map (λ pair. pair.1) o)
sets_of_one None = refl
sets_of_one (Some pair) = append-nil pair.1.items

-- the sets of a name are those under its owner
pub sets_at_key : (pairs : List Filed) → AreFiled pairs → (name : List (List ℕ)) → filter (λ set. is_same (owner_of set) name) (sets_under pairs) ≡ items_of (value_at canonical_cmp name pairs)
sets_at_key pairs h name =
    (λ i. filter (λ set. (sym (ties name (owner_of set))) i) (sets_under pairs))
    ∙ filter_under (λ other. is_eq (canonical_cmp name other)) pairs h.each
    ∙ ap sets_under (filter_one (λ pair. is_eq (canonical_cmp name pair.0)) pairs (one_owner name pairs h.ascends))
    ∙ sets_of_one (pair_at canonical_cmp name pairs)

-- whether a name exists, by its owner and the one after it
abbrev pub exists_by : Option Own → Option Filed → List (List ℕ) → Bool
exists_by (Some own) after name = true
exists_by None (Some pair) name = is_under pair.0 name
exists_by None None name = false

any_gives : {X : Type 0} (p : X → Bool) (c : Bool) (xs : List X) → AllByRecursion (λ x. p x ≡ true → c ≡ true) xs → list_any p xs ≡ true → c ≡ true
any_gives p c [] h e = absurd (true≢false (sym e))
any_gives {X} p c (x ∷ xs) h e = by (p x) refl e (any_gives p c xs h.1)
  where
    by : (b : Bool) → p x ≡ b → b || list_any p xs ≡ true → (list_any p xs ≡ true → c ≡ true) → c ≡ true
    by true here f rest = h.0 here
    by false here f rest = rest f

or_same : (b c : Bool) → (c ≡ true → b ≡ true) → b || c ≡ b
or_same true c f = refl
or_same false true f = sym (f refl)
or_same false false f = refl

not_gt : (o : Ordering) → o ≡ Less → is_gt o ≡ false
not_gt o e = ap is_gt e

by_owner : (name : List (List ℕ)) (pair : Filed) (pairs : List Filed) → IsAscending canonical_cmp (pair ∷ pairs) → (o : Ordering) → canonical_cmp name pair.0 ≡ o
    → list_any (λ p. is_under p.0 name) pairs ≡ exists_by (value_at canonical_cmp name pairs) (pair_after canonical_cmp name pairs) name
    → list_any (λ p. is_under p.0 name) (pair ∷ pairs) ≡ exists_by (value_at canonical_cmp name (pair ∷ pairs)) (pair_after canonical_cmp name (pair ∷ pairs)) name
by_owner name pair pairs h Less e rest =
    let none : pair_at canonical_cmp name pairs ≡ None = none_at_below canonical_cmp name pairs (each_weaker (λ q. canonical_cmp pair.0 q.0 ≡ Less) (λ q. canonical_cmp name q.0 ≡ Less) (λ q f. canonical_total.trans name pair.0 q.0 e f) pairs h.0) in
    rw (e, none)
    (or_same (is_under pair.0 name) (list_any (λ p. is_under p.0 name) pairs)
    (any_gives (λ p. is_under p.0 name) (is_under pair.0 name) pairs
    (each_weaker (λ q. canonical_cmp pair.0 q.0 ≡ Less) (λ q. is_under q.0 name ≡ true → is_under pair.0 name ≡ true)
    (λ q f u. under_between name pair.0 q.0 u (not_gt (canonical_cmp name pair.0) e) (not_gt (canonical_cmp pair.0 q.0) f)) pairs h.0)))
by_owner name pair pairs h Equal e rest =
    let same : is_same pair.0 name ≡ true = sym (ties name pair.0) ∙ ap is_eq e in
    let under : is_under pair.0 name ≡ true = under_from_front pair.0 name [] (folds_from_same pair.0 name same) in
    rw (e, under) refl
by_owner name pair pairs h Greater e rest =
    let back : canonical_cmp pair.0 name ≡ Less = canonical_total.antisymm pair.0 name ∙ ap ordering_reverse e in
    let apart : is_under pair.0 name ≡ false = lt_not_under pair.0 name (ap is_lt back) in
    rw (e, apart) rest

any_owner : (name : List (List ℕ)) (pairs : List Filed) → IsAscending canonical_cmp pairs → list_any (λ p. is_under p.0 name) pairs ≡ exists_by (value_at canonical_cmp name pairs) (pair_after canonical_cmp name pairs) name
any_owner name [] h = refl
any_owner name (pair ∷ pairs) h = by_owner name pair pairs h (canonical_cmp name pair.0) refl (any_owner name pairs h.1)

pub exists_owner : (pairs : List Filed) → AreFiled pairs → (name : List (List ℕ)) → exists (records_under pairs) name ≡ exists_by (value_at canonical_cmp name pairs) (pair_after canonical_cmp name pairs) name
exists_owner pairs h name =
    any_by_sets (λ owner _. is_under owner name) (sets_under pairs) h.rising.each ∙ any_under (λ owner. is_under owner name) pairs h.each ∙ any_owner name pairs h.ascends

-- the records of a name's sets are the name's, and its sets are whole
pub rrsets_at_key : (pairs : List Filed) → AreFiled pairs → (name : List (List ℕ)) → records_in (items_of (value_at canonical_cmp name pairs)) ≡ rrsets_of (records_under pairs) name
rrsets_at_key pairs h name = ap records_in (sym (sets_at_key pairs h name)) ∙ sym (filter_by_sets (λ owner _. is_same owner name) (sets_under pairs) h.rising.each)

pub whole_at_key : (pairs : List Filed) → AreFiled pairs → (name : List (List ℕ)) → AreWhole (records_under pairs) (items_of (value_at canonical_cmp name pairs))
whole_at_key pairs h name = subst (AreWhole (records_under pairs)) (sets_at_key pairs h name) (kept_whole (sets_under pairs) h.rising (λ set. is_same (owner_of set) name))

-- the owner of the records of sets is that of the first of them
pub owner_first : (items rest : List (List Record)) (name : List (List ℕ)) → 0 < length items → AllByRecursion (λ set. 0 < length set) (items ++ rest) → AllByRecursion (λ set. owner_of set ≡ name) items → owner_of (records_in (items ++ rest)) ≡ name
owner_first [] rest name l h k = absurd (omega arith)
owner_first ([] ∷ items) rest name l h k = absurd (omega (arith, h.0))
owner_first ((r ∷ rs) ∷ items) rest name l h k = k.0

-- whether a name exists, by what the calls give
module _ (pairs : List Filed) (h : AreFiled pairs) (name : List (List ℕ)) (at : Option (Bor Own)) (is : option_copied at ≡ value_at canonical_cmp name pairs) where
  pub owner_exists : is_some at ≡ true → exists (records_under pairs) name ≡ true
  owner_exists e = exists_owner pairs h name ∙ ap (λ o. exists_by o (pair_after canonical_cmp name pairs) name) (sym is) ∙ by at e
    where
      by : (o : Option (Bor Own)) → is_some o ≡ true → exists_by (option_copied o) (pair_after canonical_cmp name pairs) name ≡ true
      by None f = absurd (true≢false (sym f))
      by (Some own) f = refl

  pub next_exists : is_some at ≡ false → (after : Option Filed) → after ≡ pair_after canonical_cmp name pairs → exists (records_under pairs) name ≡ exists_by None after name
  next_exists e after next =
      exists_owner pairs h name ∙ (λ i. exists_by (sym is i) (sym next i) name) ∙ by at e
    where
      by : (o : Option (Bor Own)) → is_some o ≡ false → exists_by (option_copied o) after name ≡ exists_by None after name
      by None f = refl
      by (Some own) f = absurd (true≢false f)

-- the set of the SOA's type at the apex is there, and is the zone's SOA
module _ (at : List (List ℕ)) (count : ℕ) (pairs : List Filed) (kept : AreKept at count pairs) (sets : List (List Record)) (here : sets ≡ items_of (value_at canonical_cmp at pairs)) where
  soa_match : (r : Option (List Record)) → r ≡ find (λ set. rtype_of set == type_SOA) sets → MatchOption r (soa_of (records_under pairs) ≡ []) (λ set. set ≡ soa_of (records_under pairs))
  soa_match r e = by r (rrset_found (sets_under pairs) kept.filed.rising at type_SOA sets (sets_at_key pairs kept.filed at ∙ sym here) r e)
    where
      is : rrset_of (records_under pairs) at type_SOA ≡ soa_of (records_under pairs)
      is = ap (λ name. rrset_of (records_under pairs) name type_SOA) kept.apex ∙ soa_is_at_apex (records_under pairs) kept.lawful

      by : (o : Option (List Record)) → MatchOption o (rrset_of (records_under pairs) at type_SOA ≡ []) (λ set. (set ≡ rrset_of (records_under pairs) at type_SOA) × (rrset_of (records_under pairs) at type_SOA ≡ [] → ⊥)) → MatchOption o (soa_of (records_under pairs) ≡ []) (λ set. set ≡ soa_of (records_under pairs))
      by None h = sym is ∙ h
      by (Some set) h = h.0 ∙ is

  pub soa_none : find (λ set. rtype_of set == type_SOA) sets ≡ None → ⊥
  soa_none e =
      let none : soa_of (records_under pairs) ≡ [] = soa_match None (sym e) in
      omega (arith, ap length none, kept.lawful.rules.one_soa)

  pub soa_some : (set : List Record) → find (λ s. rtype_of s == type_SOA) sets ≡ Some set → set ≡ soa_of (records_under pairs)
  soa_some set e = soa_match (Some set) (sym e)

-- what stands to all owners as a name does is sought as the name is
module _ (sought name : List (List ℕ)) (alike : (other : List (List ℕ)) → canonical_cmp sought other ≡ canonical_cmp name other) (pairs : List Filed) where
  pub same_value : value_at canonical_cmp sought pairs ≡ value_at canonical_cmp name pairs
  same_value = λ i. option_map (λ (pair : Filed). pair.1) (find (λ (pair : Filed). is_eq (alike pair.0 i)) pairs)

  pub same_after : pair_after canonical_cmp sought pairs ≡ pair_after canonical_cmp name pairs
  same_after = λ i. find (λ (pair : Filed). is_lt (alike pair.0 i)) pairs
