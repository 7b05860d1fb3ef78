-- Facts on lists of records in canonical order.
use Rattle.std.proofs.Common.{◌≡◌, refl, sym, ap, ◌∙◌, subst, ℕ, ◌≤◌, Bool, true, false, ◌&&◌, ◌||◌, not, ◌==◌, cond, List, [], ◌∷◌, map, length, filter, arith, true≢false, ◌⊎◌, inl, inr, ⊎_elim}
use Rattle.std.specs.List.{list_any, AllByRecursion}
use Rattle.std.specs.Ordering.{nat_cmp, ordering_reverse, is_lt, is_eq}
use Rattle.std.specs.Cmp.{first_so, second_so}
use Rattle.std.specs.Cmp.Lexicographic.{slice_cmp}
use Rattle.std.specs.declared.cmp.Ordering.{Ordering}
use Rattle.std.specs.declared.cmp.Ordering.TheVariants.{Less, Equal, Greater}
use Rattle.std.proofs.lemmas.Bool.{eqb-true}
use Rattle.std.proofs.lemmas.Bool.Decides.{nat_tests}
use Rattle.std.proofs.lemmas.Cmp.{tied_itself}
use Rattle.std.proofs.lemmas.Map.Text.{is_eq-slice_cmp}
use Rattle.std.proofs.lemmas.Slice.Eq.{bytes_eq-Decides}
use Rattle.dns_name.specs.Name.{is_same, canonical_cmp}
use Rattle.dns_rdata.specs.Record.{Record, IsLawful, record_cmp}
use Rattle.zone_tree.specs.Zone.{IsBefore}
use Rattle.zone_tree.specs.Change.{is_same_record}
use Rattle.zone_tree.proofs.NameOrder.{folds_from_same, same_from_tie}
use Rattle.zone_tree.proofs.Rising.{Rises}
use Rattle.zone_tree.proofs.SetLemmas.{record_total}
use Rattle.zone_tree.proofs.ZoneLemmas.{eqb_from_tie}
use Rattle.zone_tree.proofs.LackingLemmas.{tied_parts}

-- an element of a list
abbrev pub IsIn : Record → List Record → Type 0
IsIn r [] = ⊥
IsIn r (z ∷ zs) = (z ≡ r) ⊎ IsIn r zs

-- tests
pub both : (a b : Bool) → (a && b) ≡ true → (a ≡ true) × (b ≡ true)
both true b e = (refl, e)
both false b e = cc

pub is_not : (b : Bool) → not b ≡ true → b ≡ false
is_not true e = cc
is_not false e = refl

pub not_both : (a : Bool) → a ≡ true → a ≡ false → ⊥
not_both a e f = true≢false (sym e ∙ f)

pub equal_numbers : (m n : ℕ) → m ≡ n → (m == n) ≡ true
equal_numbers m n e = grind (arith, nat_tests)

pub less : (o : Ordering) → is_lt o ≡ true → o ≡ Less
less Less e = refl
less Equal e = cc
less Greater e = cc

pub equal : (o : Ordering) → is_eq o ≡ true → o ≡ Equal
equal Less e = cc
equal Equal e = refl
equal Greater e = cc

-- the order of records
pub greater : (r s : Record) → IsBefore r s → record_cmp s r ≡ Greater
greater r s h = record_total.antisymm s r ∙ ap ordering_reverse (less (record_cmp r s) h)

pub not_itself : (r : Record) → IsBefore r r → ⊥
not_itself r h = true≢false (sym h ∙ ap is_lt (tied_itself record_total r))

pub not_each_other : (r s : Record) → IsBefore r s → IsBefore s r → ⊥
not_each_other r s h k = not_itself r (ap is_lt (record_total.trans r s r (less (record_cmp r s) h) (less (record_cmp s r) k)))

-- two records that are the same have one type, and where they are lawful they are one
module _ (r s : Record) (e : is_same_record r s ≡ true) where
  parts : (canonical_cmp r.owner s.owner ≡ Equal) × (nat_cmp r.rtype s.rtype ≡ Equal) × (slice_cmp nat_cmp r.rdata s.rdata ≡ Equal)
  parts = tied_parts (canonical_cmp r.owner s.owner) (nat_cmp r.rtype s.rtype) (slice_cmp nat_cmp r.rdata s.rdata) (first_so (is_eq (record_cmp r s)) (r.ttl == s.ttl) e)

  pub same_type : r.rtype ≡ s.rtype
  same_type = eqb-true r.rtype s.rtype (eqb_from_tie r.rtype s.rtype parts.1)

  pub same_owner : is_same r.owner s.owner ≡ true
  same_owner = same_from_tie r.owner s.owner parts.0

  pub is_one : IsLawful r → IsLawful s → r ≡ s
  is_one h k =
      let owner = h.folded ∙ folds_from_same r.owner s.owner (same_from_tie r.owner s.owner parts.0) ∙ sym k.folded in
      let ttl : r.ttl ≡ s.ttl = eqb-true r.ttl s.ttl (second_so (is_eq (record_cmp r s)) (r.ttl == s.ttl) e) in
      let rdata = (bytes_eq-Decides r.rdata s.rdata).0 (sym (is_eq-slice_cmp r.rdata s.rdata) ∙ ap is_eq parts.2) in
      λ i. record { owner = owner i; rtype = same_type i; ttl = ttl i; rdata = rdata i }

pub same_itself : (r : Record) → is_same_record r r ≡ true
same_itself r = rw (tied_itself record_total r) (equal_numbers r.ttl r.ttl refl)

pub not_same_behind : (r s : Record) → IsBefore r s → is_same_record r s ≡ false
not_same_behind r s h = rw (less (record_cmp r s) h) refl

pub not_same_before : (r s : Record) → IsBefore r s → is_same_record s r ≡ false
not_same_before r s h = rw (greater r s h) refl

-- elements
pub each_in : (P : Record → Type 0) (zs : List Record) (r : Record) → AllByRecursion P zs → IsIn r zs → P r
each_in P [] r h k = elim k [ ]
each_in P (z ∷ zs) r h (inl e) = subst P e h.0
each_in P (z ∷ zs) r h (inr k) = each_in P zs r h.1 k

pub each_from : (P : Record → Type 0) (zs : List Record) → ((r : Record) → IsIn r zs → P r) → AllByRecursion P zs
each_from P [] f = tt
each_from P (z ∷ zs) f = (f z (inl refl), each_from P zs (λ r k. f r (inr k)))

pub kept_in : (p : Record → Bool) (zs : List Record) (r : Record) → IsIn r zs → p r ≡ true → IsIn r (filter p zs)
kept_in p [] r k t = elim k [ ]
kept_in p (z ∷ zs) r (inl e) t = rw (ap p e ∙ t) (inl e)
kept_in p (z ∷ zs) r (inr k) t = by (p z) (kept_in p zs r k t)
  where
    by : (b : Bool) → IsIn r (filter p zs) → IsIn r (cond b (z ∷ filter p zs) (filter p zs))
    by true m = inr m
    by false m = m

pub in_kept : (p : Record → Bool) (zs : List Record) (r : Record) → IsIn r (filter p zs) → IsIn r zs × (p r ≡ true)
in_kept p [] r h = elim h [ ]
in_kept p (z ∷ zs) r h = by (p z) refl h (in_kept p zs r)
  where
    by : (b : Bool) → p z ≡ b → IsIn r (cond b (z ∷ filter p zs) (filter p zs)) → (IsIn r (filter p zs) → IsIn r zs × (p r ≡ true)) → IsIn r (z ∷ zs) × (p r ≡ true)
    by true e (inl is) more = (inl is, ap p (sym is) ∙ e)
    by true e (inr m) more = (inr (more m).0, (more m).1)
    by false e m more = (inr (more m).0, (more m).1)

pub any_in : (q : Record → Bool) (zs : List Record) → list_any q zs ≡ true → (r : Record) × IsIn r zs × (q r ≡ true)
any_in q [] e = absurd (true≢false (sym e))
any_in q (z ∷ zs) e = by (q z) refl e (any_in q zs)
  where
    by : (b : Bool) → q z ≡ b → b || list_any q zs ≡ true → (list_any q zs ≡ true → (r : Record) × IsIn r zs × (q r ≡ true)) → (r : Record) × IsIn r (z ∷ zs) × (q r ≡ true)
    by true e f more = (z, inl refl, e)
    by false e f more = let found = more f in (found.0, inr found.1, found.2)

pub in_any : (q : Record → Bool) (zs : List Record) (r : Record) → IsIn r zs → q r ≡ true → list_any q zs ≡ true
in_any q [] r k t = elim k [ ]
in_any q (z ∷ zs) r (inl e) t = rw (ap q e ∙ t) refl
in_any q (z ∷ zs) r (inr k) t = by (q z) (in_any q zs r k t)
  where
    by : (b : Bool) → list_any q zs ≡ true → b || list_any q zs ≡ true
    by true m = refl
    by false m = m

pub none_any : (q : Record → Bool) (zs : List Record) → AllByRecursion (λ z. q z ≡ false) zs → list_any q zs ≡ false
none_any q [] h = refl
none_any q (z ∷ zs) h = rw h.0 (none_any q zs h.1)

pub none_kept : (q : Record → Bool) (zs : List Record) → AllByRecursion (λ z. q z ≡ false) zs → filter q zs ≡ []
none_kept q [] h = refl
none_kept q (z ∷ zs) h = rw h.0 (none_kept q zs h.1)

pub all_kept : (q : Record → Bool) (zs : List Record) → AllByRecursion (λ z. q z ≡ true) zs → filter q zs ≡ zs
all_kept q [] h = refl
all_kept q (z ∷ zs) h = rw h.0 (ap (λ l. z ∷ l) (all_kept q zs h.1))

pub filter_same : (p q : Record → Bool) (zs : List Record) → AllByRecursion (λ z. p z ≡ q z) zs → filter p zs ≡ filter q zs
filter_same p q [] h = refl
filter_same p q (z ∷ zs) h = ap (λ b. cond b (z ∷ filter p zs) (filter p zs)) h.0 ∙ ap (λ l. cond (q z) (z ∷ l) l) (filter_same p q zs h.1)

pub filter_twice : (p q : Record → Bool) (zs : List Record) → filter p (filter q zs) ≡ filter (λ z. q z && p z) zs
filter_twice p q [] = refl
filter_twice p q (z ∷ zs) = by (q z) (filter_twice p q zs)
  where
    by : (b : Bool) → filter p (filter q zs) ≡ filter (λ y. q y && p y) zs → filter p (cond b (z ∷ filter q zs) (filter q zs)) ≡ cond (b && p z) (z ∷ filter (λ y. q y && p y) zs) (filter (λ y. q y && p y) zs)
    by true e = ap (λ l. cond (p z) (z ∷ l) l) e
    by false e = e

pub map_same : (f : Record → Record) (zs : List Record) → AllByRecursion (λ z. f z ≡ z) zs → map f zs ≡ zs
map_same f [] h = refl
map_same f (z ∷ zs) h = λ i. h.0 i ∷ map_same f zs h.1 i

pub not_longer : (p : Record → Bool) (zs : List Record) → length (filter p zs) ≤ length zs
not_longer p [] = omega arith
not_longer p (z ∷ zs) = by (p z) (not_longer p zs)
  where
    by : (b : Bool) → length (filter p zs) ≤ length zs → length (cond b (z ∷ filter p zs) (filter p zs)) ≤ length (z ∷ zs)
    by true k = omega arith
    by false k = omega arith

-- what a test keeps of fewer is no longer
pub fewer : (q p : Record → Bool) (zs : List Record) → length (filter q (filter p zs)) ≤ length (filter q zs)
fewer q p [] = omega arith
fewer q p (z ∷ zs) = by (p z) (q z) (fewer q p zs)
  where
    by : (b c : Bool) → length (filter q (filter p zs)) ≤ length (filter q zs) → length (filter q (cond b (z ∷ filter p zs) (filter p zs))) ≤ length (cond (q z) (z ∷ filter q zs) (filter q zs))
    by true c k = two (q z) k
      where
        two : (d : Bool) → length (filter q (filter p zs)) ≤ length (filter q zs) → length (cond d (z ∷ filter q (filter p zs)) (filter q (filter p zs))) ≤ length (cond d (z ∷ filter q zs) (filter q zs))
        two true m = omega arith
        two false m = m
    by false c k = two (q z) k
      where
        two : (d : Bool) → length (filter q (filter p zs)) ≤ length (filter q zs) → length (filter q (filter p zs)) ≤ length (cond d (z ∷ filter q zs) (filter q zs))
        two true m = omega arith
        two false m = m

-- of a list that a test keeps one of, those that pass are one
pub only_one : (q : Record → Bool) (zs : List Record) (r s : Record) → length (filter q zs) ≡ 1 → IsIn r zs → q r ≡ true → IsIn s zs → q s ≡ true → r ≡ s
only_one q zs r s one h t k u = both_are (filter q zs) one (kept_in q zs r h t) (kept_in q zs s k u)
  where
    both_are : (ys : List Record) → length ys ≡ 1 → IsIn r ys → IsIn s ys → r ≡ s
    both_are [] e m n = elim m [ ]
    both_are (y ∷ []) e (inl m) (inl n) = sym m ∙ n
    both_are (y ∷ []) e (inl m) (inr n) = absurd n
    both_are (y ∷ []) e (inr m) n = absurd m
    both_are (y ∷ z ∷ ys) e m n = absurd (omega arith)

-- what rises
pub rises_kept : (p : Record → Bool) (zs : List Record) → Rises IsBefore zs → Rises IsBefore (filter p zs)
rises_kept p [] h = tt
rises_kept p (z ∷ zs) h = by (p z) (rises_kept p zs h.1)
  where
    by : (b : Bool) → Rises IsBefore (filter p zs) → Rises IsBefore (cond b (z ∷ filter p zs) (filter p zs))
    by true k = (each_from (IsBefore z) (filter p zs) (λ r m. each_in (IsBefore z) zs r h.0 (in_kept p zs r m).0), k)
    by false k = k

-- two of one list that tie are one
pub tied_one : (zs : List Record) (r s : Record) → Rises IsBefore zs → IsIn r zs → IsIn s zs → is_eq (record_cmp r s) ≡ true → r ≡ s
tied_one [] r s h m n e = elim m [ ]
tied_one (z ∷ zs) r s h (inl m) (inl n) e = sym m ∙ n
tied_one (z ∷ zs) r s h (inl m) (inr n) e = absurd (true≢false (sym e ∙ ap is_eq (less (record_cmp r s) (each_in (λ y. IsBefore r y) zs s (subst (λ x. AllByRecursion (IsBefore x) zs) m h.0) n))))
tied_one (z ∷ zs) r s h (inr m) (inl n) e = absurd (true≢false (sym e ∙ ap is_eq (greater s r (each_in (λ y. IsBefore s y) zs r (subst (λ x. AllByRecursion (IsBefore x) zs) n h.0) m))))
tied_one (z ∷ zs) r s h (inr m) (inr n) e = tied_one zs r s h.1 m n e

pub same_lists : (xs ys : List Record) → Rises IsBefore xs → Rises IsBefore ys → ((r : Record) → IsIn r xs → IsIn r ys) → ((r : Record) → IsIn r ys → IsIn r xs) → xs ≡ ys
same_lists [] [] h k f g = refl
same_lists [] (y ∷ ys) h k f g = absurd (g y (inl refl))
same_lists (x ∷ xs) [] h k f g = absurd (f x (inl refl))
same_lists (x ∷ xs) (y ∷ ys) h k f g =
    let first : x ≡ y =
    ⊎_elim (λ e. sym e) (λ behind. ⊎_elim (λ e. e) (λ also. absurd (not_each_other x y (each_in (IsBefore x) xs y h.0 also) (each_in (IsBefore y) ys x k.0 behind))) (g y (inl refl))) (f x (inl refl)) in
    let rest = same_lists xs ys h.1 k.1
    (λ r m. ⊎_elim (λ e. absurd (not_itself r (subst (λ z. IsBefore z r) (first ∙ e) (each_in (IsBefore x) xs r h.0 m)))) (λ n. n) (f r (inr m)))
    (λ r m. ⊎_elim (λ e. absurd (not_itself r (subst (λ z. IsBefore z r) (sym first ∙ e) (each_in (IsBefore y) ys r k.0 m)))) (λ n. n) (g r (inr m))) in
    λ i. first i ∷ rest i

-- tests
pub by_false : (b : Bool) → (b ≡ true → ⊥) → b ≡ false
by_false true f = absurd (f refl)
by_false false f = refl

pub and_true : (b : Bool) → (b && true) ≡ b
and_true true = refl
and_true false = refl

pub or_false : (b : Bool) → (b || false) ≡ b
or_false true = refl
or_false false = refl
