-- Equal records, and records among others.
use Rattle.std.proofs.Common.{◌≡◌, refl, sym, ap, ◌∙◌, subst, ℕ, zero, suc, ◌<◌, Bool, true, false, ◌&&◌, ◌||◌, not, ◌==◌, cond, List, [], ◌∷◌, filter, arith, ◌⊎◌, inl, inr, ⊎_elim, true≢false}
use Rattle.std.specs.Prelude.{Contains}
use Rattle.std.specs.List.{AllByRecursion, list_any}
use Rattle.std.specs.Ordering.{nat_cmp, ordering_then, ordering_reverse, is_lt, is_eq}
use Rattle.std.specs.Ordering.{MatchOrdering}
use Rattle.std.specs.declared.cmp.Ordering.{Ordering}
use Rattle.std.specs.declared.cmp.Ordering.TheVariants.{Less, Equal, Greater}
use Rattle.std.specs.Cmp.Lexicographic.{slice_cmp}
use Rattle.std.proofs.lemmas.Bool.{eqb-true}
use Rattle.std.proofs.lemmas.Bool.Decides.{nat_tests}
use Rattle.std.proofs.lemmas.Cmp.{ranked, tied_itself}
use Rattle.std.proofs.lemmas.Map.Text.{is_eq-slice_cmp}
use Rattle.std.proofs.lemmas.Slice.Eq.{bytes_eq-Decides}
use Rattle.dns_name.specs.Name.{canonical_cmp}
use Rattle.dns_name.specs.Order.{is_same_Decides}
use Rattle.dns_rdata.specs.Record.{Record, IsLawful, record_cmp}
use Rattle.zone_tree.specs.Zone.{IsBefore}
use Rattle.zone_tree.specs.Change.{is_same_record}
use Rattle.zone_tree.proofs.NameOrder.{same_from_tie}
use Rattle.zone_tree.proofs.SetLemmas.{record_total, less}
use Rattle.transfer_core.specs.Take.{held_cmp, is_among}

-- a conjunction that holds, and one that doesn't
pub both : (a b : Bool) → (a && b) ≡ true → (a ≡ true) × (b ≡ true)
both true b e = (refl, e)
both false b e = cc

pub is_not : (b : Bool) → not b ≡ true → b ≡ false
is_not true e = cc
is_not false e = refl

pub either : (a b : Bool) → (a || b) ≡ true → (a ≡ true) ⊎ (b ≡ true)
either true b e = inl refl
either false b e = inr e

pub either_right : (a b : Bool) → b ≡ true → (a || b) ≡ true
either_right true b e = refl
either_right false b e = e

-- a record equals itself, and none that comes before or behind it
pub same_itself : (r : Record) → is_same_record r r ≡ true
same_itself r = rw (tied_itself record_total r) (equal_to_itself r.ttl)
  where
    equal_to_itself : (n : ℕ) → (n == n) ≡ true
    equal_to_itself n = grind (arith, nat_tests)

greater : (r s : Record) → IsBefore r s → record_cmp s r ≡ Greater
greater r s h = record_total.antisymm s r ∙ ap ordering_reverse (less (record_cmp r s) h)

pub not_same_behind : (r s : Record) → IsBefore r s → is_same_record r s ≡ false
not_same_behind r s h = rw (less (record_cmp r s) h) refl

pub not_same_before : (r s : Record) → IsBefore r s → is_same_record s r ≡ false
not_same_before r s h = rw (greater r s h) refl

pub not_before : (r s : Record) → IsBefore r s → is_lt (held_cmp s r) ≡ false
not_before r s h = ap (λ o. is_lt (ordering_then o (nat_cmp s.ttl r.ttl))) (greater r s h)

pub held_before : (r s : Record) → IsBefore r s → is_lt (held_cmp r s) ≡ true
held_before r s h = ap (λ o. is_lt (ordering_then o (nat_cmp r.ttl s.ttl))) (less (record_cmp r s) h)

-- lawful records that a test finds equal are
all_tied : (a b c : Ordering) → ordering_then a (ordering_then b c) ≡ Equal → (a ≡ Equal) × (b ≡ Equal) × (c ≡ Equal)
all_tied Equal Equal c e = (refl, refl, e)
all_tied Equal Less c e = cc
all_tied Equal Greater c e = cc
all_tied Less b c e = cc
all_tied Greater b c e = cc

tied_numbers : (m n : ℕ) (o : Ordering) → o ≡ Equal → MatchOrdering o (m < n) (m ≡ n) (n < m) → m ≡ n
tied_numbers m n Equal e is = is
tied_numbers m n Less e is = absurd (cc)
tied_numbers m n Greater e is = absurd (cc)

equal : (o : Ordering) → is_eq o ≡ true → o ≡ Equal
equal Equal e = refl
equal Less e = cc
equal Greater e = cc

by_fields : (r s : Record) → r.owner ≡ s.owner → r.rtype ≡ s.rtype → r.ttl ≡ s.ttl → r.rdata ≡ s.rdata → r ≡ s
by_fields r s owner rtype ttl rdata = λ i. record { owner = owner i; rtype = rtype i; ttl = ttl i; rdata = rdata i }

pub same_data : (r s : Record) → is_same_record r s ≡ true → r.rdata ≡ s.rdata
same_data r s e =
    let parts = both (is_eq (record_cmp r s)) (r.ttl == s.ttl) e in
    let fields = all_tied (canonical_cmp r.owner s.owner) (nat_cmp r.rtype s.rtype) (slice_cmp nat_cmp r.rdata s.rdata) (equal (record_cmp r s) parts.0) in
    (bytes_eq-Decides r.rdata s.rdata).0 (sym (is_eq-slice_cmp r.rdata s.rdata) ∙ ap is_eq fields.2)

pub same_type : (r s : Record) → is_same_record r s ≡ true → r.rtype ≡ s.rtype
same_type r s e =
    let parts = both (is_eq (record_cmp r s)) (r.ttl == s.ttl) e in
    let fields = all_tied (canonical_cmp r.owner s.owner) (nat_cmp r.rtype s.rtype) (slice_cmp nat_cmp r.rdata s.rdata) (equal (record_cmp r s) parts.0) in
    tied_numbers r.rtype s.rtype (nat_cmp r.rtype s.rtype) fields.1 (ranked r.rtype s.rtype (nat_cmp r.rtype s.rtype) refl)

pub same_is : (r s : Record) → IsLawful r → IsLawful s → is_same_record r s ≡ true → r ≡ s
same_is r s h k e =
    let parts = both (is_eq (record_cmp r s)) (r.ttl == s.ttl) e in
    let fields = all_tied (canonical_cmp r.owner s.owner) (nat_cmp r.rtype s.rtype) (slice_cmp nat_cmp r.rdata s.rdata) (equal (record_cmp r s) parts.0) in
    by_fields r s
    (h.folded ∙ (is_same_Decides r.owner s.owner).0 (same_from_tie r.owner s.owner fields.0) ∙ sym k.folded)
    (same_type r s e)
    (eqb-true r.ttl s.ttl parts.1)
    (same_data r s e)

-- a record is one of those of a list
abbrev pub IsIn : Record → List Record → Type 0
IsIn r [] = ⊥
IsIn r (z ∷ zs) = (z ≡ r) ⊎ IsIn r zs

pub each_in : (P : Record → Type 0) (zs : List Record) (r : Record) → AllByRecursion P zs → IsIn r zs → P r
each_in P [] r h k = absurd k
each_in P (z ∷ zs) r h (inl e) = subst P e h.0
each_in P (z ∷ zs) r h (inr k) = each_in P zs r h.1 k

pub each_from_in : (P : Record → Type 0) (zs : List Record) → ((r : Record) → IsIn r zs → P r) → AllByRecursion P zs
each_from_in P [] f = tt
each_from_in P (z ∷ zs) f = (f z (inl refl), each_from_in P zs (λ r k. f r (inr k)))

pub in_from_contains : (zs : List Record) (r : Record) → Contains zs r → IsIn r zs
in_from_contains [] r (k, l, e) = absurd (omega (arith, l))
in_from_contains (z ∷ zs) r (zero, l, e) = inl e
in_from_contains (z ∷ zs) r (suc k, l, e) = inr (in_from_contains zs r (k, omega (arith, l), e))

pub contains_from_in : (zs : List Record) (r : Record) → IsIn r zs → Contains zs r
contains_from_in [] r h = absurd h
contains_from_in (z ∷ zs) r (inl e) = (0, omega arith, e)
contains_from_in (z ∷ zs) r (inr h) = let rest = contains_from_in zs r h in (suc rest.0, omega (arith, rest.1), rest.2)

-- what a filter keeps
pub kept_in : (p : Record → Bool) (zs : List Record) (r : Record) → IsIn r zs → p r ≡ true → IsIn r (filter p zs)
kept_in p [] r h e = h
kept_in p (z ∷ zs) r (inl is) e = rw (ap p is ∙ e) (inl is)
kept_in p (z ∷ zs) r (inr h) e = by (p z) (kept_in p zs r h e)
  where
    by : (b : Bool) → IsIn r (filter p zs) → IsIn r (cond b (z ∷ filter p zs) (filter p zs))
    by true k = inr k
    by false k = k

pub in_kept : (p : Record → Bool) (zs : List Record) (r : Record) → IsIn r (filter p zs) → IsIn r zs × (p r ≡ true)
in_kept p [] r h = absurd h
in_kept p (z ∷ zs) r h = by (p z) refl h (in_kept p zs r)
  where
    by : (b : Bool) → p z ≡ b → IsIn r (cond b (z ∷ filter p zs) (filter p zs)) → (IsIn r (filter p zs) → IsIn r zs × (p r ≡ true)) → IsIn r (z ∷ zs) × (p r ≡ true)
    by true e (inl is) more = (inl is, ap p (sym is) ∙ e)
    by true e (inr k) more = let rest = more k in (inr rest.0, rest.1)
    by false e k more = let rest = more k in (inr rest.0, rest.1)

-- whether a record is among others
pub among_from_in : (zs : List Record) (r : Record) → IsIn r zs → is_among zs r ≡ true
among_from_in [] r h = absurd h
among_from_in (z ∷ zs) r (inl e) = rw e (same r)
  where
    same : (s : Record) → (is_same_record s s || list_any (is_same_record s) zs) ≡ true
    same s = rw (same_itself s) refl
among_from_in (z ∷ zs) r (inr h) = either_right (is_same_record r z) (is_among zs r) (among_from_in zs r h)

pub in_from_among : (zs : List Record) (r : Record) → AllByRecursion IsLawful zs → IsLawful r → is_among zs r ≡ true → IsIn r zs
in_from_among [] r h k e = absurd (true≢false (sym e))
in_from_among (z ∷ zs) r h k e =
    ⊎_elim (λ same. inl (sym (same_is r z k h.0 same))) (λ more. inr (in_from_among zs r h.1 k more)) (either (is_same_record r z) (is_among zs r) e)
