-- A zone as the records before an owner and a type, those of both, and those behind; and one record more among them.
use Rattle.std.proofs.Common.{◌≡◌, ℕ, Bool, true, false, ◌==◌, cond, List, [], ◌∷◌, ◌++◌, filter, nat_lt, refl, sym, ap, ◌∙◌, true≢false, append_assoc, arith}
use Rattle.std.specs.List.{AllByRecursion}
use Rattle.std.specs.Ordering.{is_lt, is_gt, is_eq, nat_cmp, ordering_then, ordering_reverse}
use Rattle.std.specs.declared.cmp.Ordering.{Ordering}
use Rattle.std.specs.declared.cmp.Ordering.TheVariants.{Less, Equal, Greater}
use Rattle.std.specs.Cmp.{IsTotalOrder, both_tied}
use Rattle.std.specs.Cmp.Lexicographic.{slice_cmp}
use Rattle.std.proofs.lemmas.Cmp.{on_total, then_total, nat_cmp_total, upto, alike_right, tied_itself}
use Rattle.std.proofs.lemmas.Bool.Decides.{nat_tests}
use Rattle.std.proofs.lemmas.List.Elements.{filter-append, filter_agree}
use Rattle.dns_name.specs.Name.{Name, is_same, canonical_cmp}
use Rattle.dns_name.specs.Order.{canonical_total, is_same_tied}
use Rattle.dns_name.proofs.OrderLemmas.{then_assoc}
use Rattle.dns_rdata.specs.Record.{Record, record_cmp, with_record, owner_of, rtype_of}
use Rattle.zone_tree.specs.Zone.{IsBefore, is_of}
use Rattle.zone_tree.specs.Change.{beside, with_rrset}
use Rattle.zone_tree.proofs.NameOrder.{tie_from_same}
use Rattle.zone_tree.proofs.Rising.{Rises, each_weaker, filter_alike}
use Rattle.zone_tree.proofs.LookLemmas.{before_by}
use Rattle.update_core.specs.Act.{with_one}

-- where a record stands beside an owner and a type
abbrev pub place : Name → ℕ → Record → Ordering
place owner rtype r = ordering_then (canonical_cmp r.owner owner) (nat_cmp r.rtype rtype)

-- the order by owner and type
abbrev key_cmp : Record → Record → Ordering
key_cmp r s = place s.owner s.rtype r

key_total : IsTotalOrder key_cmp
key_total = then_total (on_total (λ (r : Record). r.owner) canonical_total) (on_total (λ (r : Record). r.rtype) nat_cmp_total)

-- the order of records is that by owner and type, and then by data
by_data : (r s : Record) → record_cmp r s ≡ ordering_then (key_cmp r s) (slice_cmp nat_cmp r.rdata s.rdata)
by_data r s = sym (then_assoc (canonical_cmp r.owner s.owner) (nat_cmp r.rtype s.rtype) (slice_cmp nat_cmp r.rdata s.rdata))

not_behind : (a b : Ordering) → is_lt (ordering_then a b) ≡ true → is_gt a ≡ false
not_behind Less b e = refl
not_behind Equal b e = refl
not_behind Greater b e = cc

in_order : (r s : Record) → IsBefore r s → is_gt (key_cmp r s) ≡ false
in_order r s before = not_behind (key_cmp r s) (slice_cmp nat_cmp r.rdata s.rdata) (ap is_lt (sym (by_data r s)) ∙ before)

numbers_tied : (m n : ℕ) → (m == n) ≡ is_eq (nat_cmp m n)
numbers_tied m n = by (nat_lt m n) refl
  where
    by : (b : Bool) → nat_lt m n ≡ b → (m == n) ≡ is_eq (cond b Less (cond (m == n) Equal Greater))
    by true e = grind (arith, nat_tests)
    by false e = other (m == n)
      where
        other : (c : Bool) → c ≡ is_eq (cond c Equal Greater)
        other true = refl
        other false = refl

-- what is before or behind isn't beside
pub lt_apart : (o : Ordering) → is_lt o ≡ true → is_eq o ≡ false
lt_apart Less e = refl
lt_apart Equal e = cc
lt_apart Greater e = refl

pub gt_apart : (o : Ordering) → is_gt o ≡ true → is_eq o ≡ false
gt_apart Less e = refl
gt_apart Equal e = cc
gt_apart Greater e = refl

module _ (owner : Name) (rtype : ℕ) where
  abbrev at : Record → Ordering
  at = place owner rtype

  abbrev key : Record
  key = record { owner = owner; rtype = rtype; ttl = 0; rdata = [] }

  -- a record of the owner and type is beside them
  pub of_place : (s : Record) → is_of owner rtype s ≡ is_eq (at s)
  of_place s = both_tied (is_same s.owner owner) (s.rtype == rtype) (canonical_cmp s.owner owner) (nat_cmp s.rtype rtype) (is_same_tied s.owner owner) (numbers_tied s.rtype rtype)

  -- what is behind a record that isn't before them isn't either, and what is behind one behind them is behind them
  not_before : (b : Bool) → (b ≡ true → ⊥) → b ≡ false
  not_before true f = absurd (f refl)
  not_before false f = refl

  stays_from : (r s : Record) → IsBefore r s → is_lt (at r) ≡ false → is_lt (at s) ≡ false
  stays_from r s before from = not_before (is_lt (at s)) (λ less. true≢false (sym (before_by key_total r s key (in_order r s before) less) ∙ from))

  so_from : (b : Bool) → (b ≡ false → ⊥) → b ≡ true
  so_from true f = refl
  so_from false f = absurd (f refl)

  stays_behind : (r s : Record) → IsBefore r s → is_gt (at r) ≡ true → is_gt (at s) ≡ true
  stays_behind r s before behind = so_from (is_gt (at s)) (λ none. true≢false (sym behind ∙ upto key_total r s key (in_order r s before) none))

  -- the three parts
  abbrev pub before_part : List Record → List Record
  before_part zone = filter (λ s. is_lt (at s)) zone

  abbrev pub own_part : List Record → List Record
  own_part zone = filter (is_of owner rtype) zone

  abbrev pub behind_part : List Record → List Record
  behind_part zone = filter (λ s. is_gt (at s)) zone

  pub three_parts : (zone : List Record) → Rises IsBefore zone → zone ≡ before_part zone ++ (own_part zone ++ behind_part zone)
  three_parts [] h = refl
  three_parts (z ∷ zs) h = by (at z) refl (three_parts zs h.1)
    where
      none_before : is_lt (at z) ≡ false → before_part zs ≡ []
      none_before from = filter_alike (λ s. is_lt (at s)) false zs (each_weaker (IsBefore z) (λ s. is_lt (at s) ≡ false) (λ s before. stays_from z s before from) zs h.0)

      none_own : is_gt (at z) ≡ true → own_part zs ≡ []
      none_own behind =
          filter_alike (is_of owner rtype) false zs (each_weaker (IsBefore z) (λ s. is_of owner rtype s ≡ false) (λ s before. of_place s ∙ gt_apart (at s) (stays_behind z s before behind)) zs h.0)

      by : (o : Ordering) → at z ≡ o → zs ≡ before_part zs ++ (own_part zs ++ behind_part zs) → z ∷ zs ≡ before_part (z ∷ zs) ++ (own_part (z ∷ zs) ++ behind_part (z ∷ zs))
      by Less e rest = let of = of_place z ∙ ap is_eq e in rw (e, of) (ap (λ l. z ∷ l) rest)
      by Equal e rest =
          let of = of_place z ∙ ap is_eq e in
          let none = none_before (ap is_lt e) in
          rw (e, of, none) (ap (λ l. z ∷ l) (rest ∙ ap (λ l. l ++ (own_part zs ++ behind_part zs)) none))
      by Greater e rest =
          let of = of_place z ∙ ap is_eq e in
          let none = none_before (ap is_lt e) in
          let nothing = none_own (ap is_gt e) in
          rw (e, of, none, nothing) (ap (λ l. z ∷ l) (rest ∙ λ i. none i ++ (nothing i ++ behind_part zs)))

  -- a filter that touches the records of the owner and type alone
  same_front : (q : Record → Bool) → ((s : Record) → is_of owner rtype s ≡ false → q s ≡ true) → (b : Ordering → Bool) → ((o : Ordering) → b o ≡ true → is_eq o ≡ false) → (zs : List Record) → filter q (filter (λ s. b (at s)) zs) ≡ filter (λ s. b (at s)) zs
  same_front q stays b apart [] = refl
  same_front q stays b apart (z ∷ zs) = by (b (at z)) refl (same_front q stays b apart zs)
    where
      by : (c : Bool) → b (at z) ≡ c → filter q (filter (λ s. b (at s)) zs) ≡ filter (λ s. b (at s)) zs → filter q (cond c (z ∷ filter (λ s. b (at s)) zs) (filter (λ s. b (at s)) zs)) ≡ cond c (z ∷ filter (λ s. b (at s)) zs) (filter (λ s. b (at s)) zs)
      by true e rest = rw (stays z (of_place z ∙ apart (at z) e)) (ap (λ l. z ∷ l) rest)
      by false e rest = rest

  pub left_parts : (q : Record → Bool) → ((s : Record) → is_of owner rtype s ≡ false → q s ≡ true) → (zone : List Record) → Rises IsBefore zone → filter q zone ≡ before_part zone ++ (filter q (own_part zone) ++ behind_part zone)
  left_parts q stays zone h =
      ap (filter q) (three_parts zone h)
      ∙ filter-append q (before_part zone) (own_part zone ++ behind_part zone)
      ∙ (λ i. same_front q stays is_lt lt_apart zone i ++ (filter-append q (own_part zone) (behind_part zone) ∙ ap (λ l. filter q (own_part zone) ++ l) (same_front q stays is_gt gt_apart zone)) i)

  -- a set of the owner and type in the place of their records
  pub set_parts : (zone set : List Record) → is_same (owner_of set) owner ≡ true → rtype_of set ≡ rtype → with_rrset zone set ≡ before_part zone ++ (set ++ behind_part zone)
  set_parts zone set same types =
      let alike : (s : Record) → beside set s ≡ at s = λ s. (λ i. ordering_then (alike_right canonical_total (owner_of set) owner s.owner (tie_from_same (owner_of set) owner same) i) (nat_cmp s.rtype (types i))) in
      (λ i. (filter_agree (λ s. is_lt (beside set s)) (λ s. is_lt (at s)) (λ s. ap is_lt (alike s)) zone i ++ set) ++ filter_agree (λ s. is_gt (beside set s)) (λ s. is_gt (at s)) (λ s. ap is_gt (alike s)) zone i)
      ∙ append_assoc (before_part zone) set (behind_part zone)

  -- one record more of the owner and type
  module _ (r : Record) (same : is_same r.owner owner ≡ true) (types : r.rtype ≡ rtype) where
    key_is : (s : Record) → key_cmp r s ≡ ordering_reverse (at s)
    key_is s =
        key_total.congr r key s (λ i. ordering_then (tie_from_same r.owner owner same i) ((ap (λ t. nat_cmp t rtype) types ∙ tied_itself nat_cmp_total rtype) i))
        ∙ key_total.antisymm key s

    cmp_is : (s : Record) → record_cmp r s ≡ ordering_then (ordering_reverse (at s)) (slice_cmp nat_cmp r.rdata s.rdata)
    cmp_is s = by_data r s ∙ ap (λ o. ordering_then o (slice_cmp nat_cmp r.rdata s.rdata)) (key_is s)

    less_is : (o : Ordering) → is_lt o ≡ true → o ≡ Less
    less_is Less e = refl
    less_is Equal e = cc
    less_is Greater e = cc

    equal_is : (o : Ordering) → is_eq o ≡ true → o ≡ Equal
    equal_is Less e = cc
    equal_is Equal e = refl
    equal_is Greater e = cc

    greater_is : (o : Ordering) → is_gt o ≡ true → o ≡ Greater
    greater_is Less e = cc
    greater_is Equal e = cc
    greater_is Greater e = refl

    behind_before : (xs ys : List Record) → AllByRecursion (λ s. is_lt (at s) ≡ true) xs → with_one r (xs ++ ys) ≡ xs ++ with_one r ys
    behind_before [] ys h = refl
    behind_before (x ∷ xs) ys h =
        let o = cmp_is x ∙ ap (λ p. ordering_then (ordering_reverse p) (slice_cmp nat_cmp r.rdata x.rdata)) (less_is (at x) h.0) in
        rw o (ap (λ l. x ∷ l) (behind_before xs ys h.1))

    in_front : (zs : List Record) → AllByRecursion (λ s. is_gt (at s) ≡ true) zs → with_one r zs ≡ r ∷ zs
    in_front [] h = refl
    in_front (z ∷ zs) h =
        let o = cmp_is z ∙ ap (λ p. ordering_then (ordering_reverse p) (slice_cmp nat_cmp r.rdata z.rdata)) (greater_is (at z) h.0) in
        rw o refl

    among : (ys zs : List Record) → AllByRecursion (λ s. is_eq (at s) ≡ true) ys → AllByRecursion (λ s. is_gt (at s) ≡ true) zs → with_one r (ys ++ zs) ≡ with_record r ys ++ zs
    among [] zs h k = in_front zs k
    among (y ∷ ys) zs h k =
        let o = cmp_is y ∙ ap (λ p. ordering_then (ordering_reverse p) (slice_cmp nat_cmp r.rdata y.rdata)) (equal_is (at y) h.0) in
        rw o (by (slice_cmp nat_cmp r.rdata y.rdata) (among ys zs h.1 k))
      where
        by : (o : Ordering) → with_one r (ys ++ zs) ≡ with_record r ys ++ zs → cond (is_lt o) (r ∷ y ∷ (ys ++ zs)) (cond (is_eq o) (y ∷ (ys ++ zs)) (y ∷ with_one r (ys ++ zs))) ≡ cond (is_lt o) (r ∷ y ∷ ys) (cond (is_eq o) (y ∷ ys) (y ∷ with_record r ys)) ++ zs
        by Less rest = refl
        by Equal rest = refl
        by Greater rest = ap (λ l. y ∷ l) rest

    pub with_one_parts : (xs ys zs : List Record) → AllByRecursion (λ s. is_lt (at s) ≡ true) xs → AllByRecursion (λ s. is_eq (at s) ≡ true) ys → AllByRecursion (λ s. is_gt (at s) ≡ true) zs → with_one r (xs ++ (ys ++ zs)) ≡ xs ++ (with_record r ys ++ zs)
    with_one_parts xs ys zs h k m = behind_before xs (ys ++ zs) h ∙ ap (λ l. xs ++ l) (among ys zs k m)

  -- each part is where it is
  pub each_passes : (p : Record → Bool) (zs : List Record) → AllByRecursion (λ s. p s ≡ true) (filter p zs)
  each_passes p [] = tt
  each_passes p (z ∷ zs) = by (p z) refl (each_passes p zs)
    where
      by : (b : Bool) → p z ≡ b → AllByRecursion (λ s. p s ≡ true) (filter p zs) → AllByRecursion (λ s. p s ≡ true) (cond b (z ∷ filter p zs) (filter p zs))
      by true e rest = (e, rest)
      by false e rest = rest

  pub own_beside : (zone : List Record) → AllByRecursion (λ s. is_eq (at s) ≡ true) (own_part zone)
  own_beside zone = each_weaker (λ s. is_of owner rtype s ≡ true) (λ s. is_eq (at s) ≡ true) (λ s e. sym (of_place s) ∙ e) (own_part zone) (each_passes (is_of owner rtype) zone)
