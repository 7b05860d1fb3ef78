-- Changes put on the zone that they were made of.
use Rattle.std.proofs.Common.{◌≡◌, refl, sym, ap, ◌∙◌, subst, Bool, true, false, ◌&&◌, ◌||◌, cond, List, [], ◌∷◌, get_or, arith, true≢false, eqb-true}
use Rattle.std.specs.Prelude.{◌==◌, not, Contains}
use Rattle.std.specs.declared.cmp.Ordering.{Ordering}
use Rattle.std.specs.declared.cmp.Ordering.TheVariants.{Less, Equal, Greater}
use Rattle.std.specs.List.{filter, list_any, AllByRecursion}
use Rattle.std.specs.Ordering.{nat_cmp, ordering_reverse, is_lt, is_eq}
use Rattle.std.specs.Cmp.{first_so, second_so}
use Rattle.std.specs.Cmp.Lexicographic.{slice_cmp}
use Rattle.std.proofs.lemmas.Bool.Decides.{nat_tests}
use Rattle.std.proofs.lemmas.Cmp.{alike_right}
use Rattle.std.proofs.lemmas.Map.Text.{is_eq-slice_cmp}
use Rattle.std.proofs.lemmas.Map.Views.{any-filter_same}
use Rattle.std.proofs.lemmas.Slice.Eq.{bytes_eq-Decides}
use Rattle.std.proofs.lemmas.List.Folds.{list_any_at}
use Rattle.std.proofs.lemmas.List.Elements.{All-from_recursion, recursion_from_All}
use Rattle.dns_name.specs.Name.{canonical_cmp}
use Rattle.dns_rdata.specs.Numbers.{type_SOA}
use Rattle.dns_rdata.specs.Record.{Record, IsLawful, record_cmp}
use Rattle.shared_tree.proofs.PairLemmas.{filter_all, each_passes}
use Rattle.zone_tree.specs.Zone.{IsZone, IsBefore, soa_of}
use Rattle.zone_tree.specs.Change.{is_same_record, left_out}
use Rattle.zone_tree.specs.Delta.{other_than_soa}
use Rattle.zone_tree.specs.Patch.{is_among, inserted, with_all, put}
use Rattle.zone_tree.specs.Version.{Changes, AreChanges}
use Rattle.zone_tree.proofs.NameOrder.{folds_from_same, same_from_tie}
use Rattle.zone_tree.proofs.Rising.{Rises, rises_from_pairs, Rises-filter, each_weaker, each_both, each_filter, place_from_any}
use Rattle.zone_tree.proofs.SetLemmas.{record_total, less}
use Rattle.zone_tree.proofs.ZoneLemmas.{eqb_from_tie}
use Rattle.zone_tree.proofs.LackingLemmas.{tied_parts, and_true, filter_same}
use Rattle.zone_tree.proofs.LawLemmas.{same_lists, each_contained, filter_twice}
use Rattle.zone_tree.proofs.DeltaLemmas.{all_there, same_itself}

-- of records that a test finds equal
equal_from : (o : Ordering) → is_eq o ≡ true → o ≡ Equal
equal_from Less e = absurd (true≢false (sym e))
equal_from Equal e = refl
equal_from Greater e = absurd (true≢false (sym e))

module _ (r s : Record) (e : is_same_record r s ≡ true) where
  tie : is_eq (record_cmp r s) ≡ true
  tie = first_so (is_eq (record_cmp r s)) (r.ttl == s.ttl) e

  parts : (canonical_cmp r.owner s.owner ≡ Equal) × (nat_cmp r.rtype s.rtype ≡ Equal) × (slice_cmp nat_cmp r.rdata s.rdata ≡ Equal)
  parts = tied_parts (canonical_cmp r.owner s.owner) (nat_cmp r.rtype s.rtype) (slice_cmp nat_cmp r.rdata s.rdata) tie

  same_ttl : r.ttl ≡ s.ttl
  same_ttl = eqb-true r.ttl s.ttl (second_so (is_eq (record_cmp r s)) (r.ttl == s.ttl) e)

  same_type : r.rtype ≡ s.rtype
  same_type = eqb-true r.rtype s.rtype (eqb_from_tie r.rtype s.rtype parts.1)

  -- each test of another record tells the same of both
  alike : (z : Record) → is_same_record r z ≡ is_same_record s z
  alike z = λ i. is_eq (record_total.congr r s z (equal_from (record_cmp r s) tie) i) && (same_ttl i == z.ttl)

  among_alike : (zs : List Record) → is_among zs r ≡ is_among zs s
  among_alike zs = λ i. list_any (λ z. alike z i) zs

  -- and where they are lawful they are one
  same_is : IsLawful r → IsLawful s → r ≡ s
  same_is h k =
      let owner = h.folded ∙ folds_from_same r.owner s.owner (same_from_tie r.owner s.owner parts.0) ∙ sym k.folded in
      let rdata = (bytes_eq-Decides r.rdata s.rdata).0 (sym (is_eq-slice_cmp r.rdata s.rdata) ∙ ap is_eq parts.2) in
      λ i. record { owner = owner i; rtype = same_type i; ttl = same_ttl i; rdata = rdata i }

-- a record that is among others is one of them
contained : (zs : List Record) (r : Record) → AllByRecursion IsLawful zs → IsLawful r → is_among zs r ≡ true → Contains zs r
contained zs r h k e =
    let at = place_from_any (is_same_record r) zs r e in
    (at.0, at.1, sym (same_is r (get_or zs at.0 r) at.2 k (All-from_recursion IsLawful zs h at.0 r at.1)))

among : (zs : List Record) (r : Record) → Contains zs r → is_among zs r ≡ true
among zs r h = list_any_at (is_same_record r) zs h.0 r h.1 (ap (is_same_record r) h.2 ∙ same_itself r)

-- records of one zone that another has too, SOA apart
abbrev those : List Record → Record → Bool
those other r = not (r.rtype == type_SOA) && is_among other r

those_alike : (other : List Record) (r s : Record) → is_same_record r s ≡ true → those other s ≡ those other r
those_alike other r s e = λ i. not (sym (same_type r s e) i == type_SOA) && sym (among_alike r s e other) i

three : (a b c : Bool) → (a && b) && c ≡ true → (a && c) && b ≡ true
three true true true e = refl
three true true false e = e
three true false c e = absurd (true≢false (sym e))
three false b c e = absurd (true≢false (sym e))

crosses : (zone next : List Record) → AllByRecursion IsLawful zone → AllByRecursion IsLawful next → (r : Record) → Contains (filter (those next) zone) r → Contains (filter (those zone) next) r
crosses zone next h k r there =
    let own : ((not (r.rtype == type_SOA) && is_among next r) && is_among zone r) ≡ true =
    sym (any-filter_same (is_same_record r) (those next) (those next r) (λ s e. those_alike next r s e) zone) ∙ among (filter (those next) zone) r there in
    let other : is_among (filter (those zone) next) r ≡ true =
    any-filter_same (is_same_record r) (those zone) (those zone r) (λ s e. those_alike zone r s e) next ∙ three (not (r.rtype == type_SOA)) (is_among next r) (is_among zone r) own in
    contained (filter (those zone) next) r (each_filter (those zone) IsLawful next k) (each_contained IsLawful (filter (those next) zone) r (each_filter (those next) IsLawful zone h) there) other

-- a record that goes into its place among those of a list that a filter kept
before_among : (z r : Record) (zs : List Record) → AllByRecursion (IsBefore z) zs → is_among zs r ≡ true → IsBefore z r
before_among z r [] h e = absurd (true≢false (sym e))
before_among z r (y ∷ ys) h e = by (is_same_record r y) refl e (before_among z r ys h.1)
  where
    by : (b : Bool) → is_same_record r y ≡ b → b || is_among ys r ≡ true → (is_among ys r ≡ true → IsBefore z r) → IsBefore z r
    by true f k more = ap is_lt (alike_right record_total r y z (equal_from (record_cmp r y) (tie r y f))) ∙ h.0
    by false f k more = more k

not_before : (z r : Record) → IsBefore z r → is_lt (record_cmp r z) ≡ false
not_before z r h = ap is_lt (record_total.antisymm r z ∙ ap ordering_reverse (less (record_cmp z r) h))

not_same : (z r : Record) → IsBefore z r → is_same_record z r ≡ false
not_same z r h = rw (less (record_cmp z r) h) refl

or_false : (b : Bool) → (b || false) ≡ b
or_false true = refl
or_false false = refl

inserted_front : (r : Record) (zs : List Record) → AllByRecursion (IsBefore r) zs → inserted r zs ≡ r ∷ zs
inserted_front r [] h = refl
inserted_front r (z ∷ zs) h = rw h.0 refl

inserted_kept : (p : Record → Bool) (zs : List Record) (r : Record) → Rises IsBefore zs → AllByRecursion IsLawful zs → IsLawful r → is_among zs r ≡ true → p r ≡ false
    → inserted r (filter p zs) ≡ filter (λ z. p z || is_same_record r z) zs
inserted_kept p [] r h k l e out = absurd (true≢false (sym e))
inserted_kept p (z ∷ zs) r h k l e out = by (is_same_record r z) refl e (λ m. inserted_kept p zs r h.1 k.1 l m out)
  where
    first : p z ≡ false → inserted z (filter p (z ∷ zs)) ≡ filter (λ y. p y || is_same_record z y) (z ∷ zs)
    first none =
        rw (none, same_itself z)
        (inserted_front z (filter p zs) (each_filter p (IsBefore z) zs h.0)
        ∙ ap (λ q. z ∷ q) (filter_same p (λ y. p y || is_same_record z y) zs (each_weaker (IsBefore z) (λ y. p y ≡ (p y || is_same_record z y)) (λ y m. sym (ap (λ b. p y || b) (not_same z y m) ∙ or_false (p y))) zs h.0)))

    later : IsBefore z r → is_same_record r z ≡ false → (b : Bool) → inserted r (filter p zs) ≡ filter (λ y. p y || is_same_record r y) zs
        → inserted r (cond b (z ∷ filter p zs) (filter p zs)) ≡ cond (b || is_same_record r z) (z ∷ filter (λ y. p y || is_same_record r y) zs) (filter (λ y. p y || is_same_record r y) zs)
    later m f true rest = rw (not_before z r m) (ap (λ q. z ∷ q) rest)
    later m f false rest = rw f rest

    by : (b : Bool) → is_same_record r z ≡ b → b || is_among zs r ≡ true → (is_among zs r ≡ true → inserted r (filter p zs) ≡ filter (λ y. p y || is_same_record r y) zs) → inserted r (filter p (z ∷ zs)) ≡ filter (λ y. p y || is_same_record r y) (z ∷ zs)
    by true f m more = let one = same_is r z f l k.0 in subst (λ s. p s ≡ false → inserted s (filter p (z ∷ zs)) ≡ filter (λ y. p y || is_same_record s y) (z ∷ zs)) (sym one) first out
    by false f m more = later (before_among z r zs h.0 m) f (p z) (more m)

-- a record is the same as another the other way round too
reversed : (o : Ordering) → is_eq (ordering_reverse o) ≡ is_eq o
reversed Less = refl
reversed Equal = refl
reversed Greater = refl

same_round : (r s : Record) → is_same_record s r ≡ is_same_record r s
same_round r s =
    let numbers : (s.ttl == r.ttl) ≡ (r.ttl == s.ttl) = grind (arith, nat_tests) in
    λ i. (ap is_eq (record_total.antisymm s r) ∙ reversed (record_cmp r s)) i && numbers i

-- several records that a filter didn't keep
record IsOut (p : Record → Bool) (zs : List Record) (r : Record) : Type 0 where
  lawful : IsLawful r
  there : is_among zs r ≡ true
  out : p r ≡ false

none_same : (r : Record) (rs : List Record) → AllByRecursion (IsBefore r) rs → is_among rs r ≡ false
none_same r [] h = refl
none_same r (s ∷ ss) h = rw (not_same r s h.0) (none_same r ss h.1)

turned : (a b c : Bool) → (a || b) || c ≡ a || (c || b)
turned true b c = refl
turned false true true = refl
turned false true false = refl
turned false false true = refl
turned false false false = refl

all_inserted : (p : Record → Bool) (zs : List Record) → Rises IsBefore zs → AllByRecursion IsLawful zs → (rs : List Record) → Rises IsBefore rs → AllByRecursion (IsOut p zs) rs → with_all rs (filter p zs) ≡ filter (λ z. p z || is_among rs z) zs
all_inserted p zs h k [] rise all = λ i. filter (λ z. sym (or_false (p z)) i) zs
all_inserted p zs h k (r ∷ rs) rise all =
    let out : (p r || is_among rs r) ≡ false = (λ i. all.0.out i || none_same r rs rise.0 i) in
    ap (inserted r) (all_inserted p zs h k rs rise.1 all.1)
    ∙ inserted_kept (λ z. p z || is_among rs z) zs r h k all.0.lawful all.0.there out
    ∙ (λ i. filter (λ z. (turned (p z) (is_among rs z) (is_same_record r z) ∙ ap (λ b. p z || (b || is_among rs z)) (same_round z r)) i) zs)

-- what one zone has and another hasn't, SOA apart
abbrev missing : List Record → Record → Bool
missing other r = not (r.rtype == type_SOA) && not (is_among other r)

among_missing : (zone other : List Record) (r : Record) → is_among zone r ≡ true → is_among (left_out zone other) r ≡ missing other r
among_missing zone other r e =
    any-filter_same (is_same_record r) (missing other) (missing other r) (λ s f. λ i. not (sym (same_type r s f) i == type_SOA) && not (sym (among_alike r s f other) i)) zone
    ∙ ap (λ b. missing other r && b) e ∙ and_true (missing other r)

among_soa : (zone : List Record) (r : Record) → is_among (soa_of zone) r ≡ ((r.rtype == type_SOA) && is_among zone r)
among_soa zone r = any-filter_same (is_same_record r) (λ s. s.rtype == type_SOA) (r.rtype == type_SOA) (λ s f. ap (λ t. t == type_SOA) (sym (same_type r s f))) zone

-- the deletions taken out of a zone, SOA apart
taken : (a b : Bool) → (not (not a && not b) && not a) ≡ (not a && b)
taken true b = refl
taken false true = refl
taken false false = refl

without : (zone next : List Record) → filter (λ r. not (is_among (left_out zone next) r)) (other_than_soa zone) ≡ filter (those next) zone
without zone next =
    sym (filter_twice (λ r. not (is_among (left_out zone next) r)) (λ r. not (r.rtype == type_SOA)) zone)
    ∙ filter_same (λ r. not (is_among (left_out zone next) r) && not (r.rtype == type_SOA)) (those next) zone
    (each_weaker (λ r. is_among zone r ≡ true) (λ r. (not (is_among (left_out zone next) r) && not (r.rtype == type_SOA)) ≡ those next r)
    (λ r e. ap (λ b. not b && not (r.rtype == type_SOA)) (among_missing zone next r e) ∙ taken (r.rtype == type_SOA) (is_among next r)) zone (all_there zone))

-- the records of each kind are all
no_soa : (a b : Bool) → a ≡ true → (not a && b) ≡ false
no_soa true b e = refl
no_soa false b e = absurd (true≢false (sym e))

neither : (a b c : Bool) → (not a && not b) ≡ true → (((not a && b) || (a && c)) ≡ false)
neither true b c e = absurd (true≢false (sym e))
neither false true c e = absurd (true≢false (sym e))
neither false false c e = refl

each_kind : (a b : Bool) → (((not a && b) || (a && true)) || (not a && not b)) ≡ true
each_kind true b = refl
each_kind false true = refl
each_kind false false = refl

module _ (zone next : List Record) (h : IsZone zone) (k : IsZone next) where
  lawful_of : (z : List Record) → IsZone z → AllByRecursion IsLawful z
  lawful_of z m = recursion_from_All IsLawful z m.rules.lawful

  rises_of : (z : List Record) → IsZone z → Rises IsBefore z
  rises_of z m = rises_from_pairs IsBefore z m.rules.ascending

  stay : filter (those next) zone ≡ filter (those zone) next
  stay =
      same_lists (filter (those next) zone) (filter (those zone) next) (Rises-filter (those next) IsBefore zone (rises_of zone h)) (Rises-filter (those zone) IsBefore next (rises_of next k))
      (λ r. (crosses zone next (lawful_of zone h) (lawful_of next k) r, crosses next zone (lawful_of next k) (lawful_of zone h) r))

  -- what a test keeps of the next zone
  kept_out : (q p : Record → Bool) → ((r : Record) → q r ≡ true → p r ≡ false) → AllByRecursion (IsOut p next) (filter q next)
  kept_out q p f =
      each_weaker (λ r. (IsLawful r × (is_among next r ≡ true)) × (q r ≡ true)) (IsOut p next) (λ r m. record { lawful = m.0.0; there = m.0.1; out = f r m.1 }) (filter q next)
      (each_both (λ r. IsLawful r × (is_among next r ≡ true)) (λ r. q r ≡ true) (filter q next)
      (each_filter q (λ r. IsLawful r × (is_among next r ≡ true)) next (each_both IsLawful (λ r. is_among next r ≡ true) next (lawful_of next k) (all_there next)))
      (each_passes q next))

  abbrev so_far : Record → Bool
  so_far z = those zone z || is_among (soa_of next) z

  with_soa : with_all (soa_of next) (filter (those zone) next) ≡ filter so_far next
  with_soa =
      all_inserted (those zone) next (rises_of next k) (lawful_of next k) (soa_of next) (Rises-filter (λ r. r.rtype == type_SOA) IsBefore next (rises_of next k))
      (kept_out (λ r. r.rtype == type_SOA) (those zone) (λ r e. no_soa (r.rtype == type_SOA) (is_among zone r) e))

  with_additions : with_all (left_out next zone) (filter so_far next) ≡ filter (λ z. so_far z || is_among (left_out next zone) z) next
  with_additions =
      all_inserted so_far next (rises_of next k) (lawful_of next k) (left_out next zone) (Rises-filter (missing zone) IsBefore next (rises_of next k))
      (kept_out (missing zone) so_far (λ r e. ap (λ b. those zone r || b) (among_soa next r) ∙ neither (r.rtype == type_SOA) (is_among zone r) (is_among next r) e))

  all_kept : filter (λ z. so_far z || is_among (left_out next zone) z) next ≡ next
  all_kept =
      filter_all (λ z. so_far z || is_among (left_out next zone) z) next
      (each_weaker (λ z. is_among next z ≡ true) (λ z. so_far z || is_among (left_out next zone) z ≡ true)
      (λ z e. (λ i. (those zone z || (among_soa next z ∙ ap (λ b. (z.rtype == type_SOA) && b) e) i) || among_missing next zone z e i) ∙ each_kind (z.rtype == type_SOA) (is_among zone z))
      next (all_there next))

  pub put_changes : (changes : Changes) → AreChanges changes zone next → put zone changes (soa_of next) ≡ next
  put_changes changes is =
      (λ i. with_all (is.additions i) (with_all (soa_of next) (filter (λ r. not (is_among (is.deletions i) r)) (other_than_soa zone))))
      ∙ ap (λ l. with_all (left_out next zone) (with_all (soa_of next) l)) (without zone next ∙ stay)
      ∙ ap (with_all (left_out next zone)) with_soa
      ∙ with_additions ∙ all_kept
