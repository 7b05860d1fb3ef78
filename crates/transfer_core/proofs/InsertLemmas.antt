-- Records that go into a list one after another, and out of it.
use Rattle.std.proofs.Common.{◌≡◌, refl, sym, ap, ◌∙◌, subst, Bool, true, false, ◌&&◌, ◌||◌, not, cond, List, [], ◌∷◌, filter, inl, inr}
use Rattle.std.specs.List.{AllByRecursion}
use Rattle.dns_rdata.specs.Record.{Record}
use Rattle.zone_tree.specs.Zone.{IsBefore}
use Rattle.zone_tree.specs.Change.{is_same_record}
use Rattle.zone_tree.proofs.Rising.{Rises, each_weaker, each_filter}
use Rattle.transfer_core.specs.Take.{is_among, inserted, joined, removed}
use Rattle.transfer_core.proofs.RecordLemmas.{IsIn, each_in, same_itself, not_same_behind, not_same_before, not_before, held_before, among_from_in, kept_in}

-- filters whose tests agree along a list
pub filter_same : (p q : Record → Bool) (zs : List Record) → AllByRecursion (λ z. p z ≡ q z) zs → filter p zs ≡ filter q zs
filter_same p q [] h = refl
filter_same p q (z ∷ zs) h = ap (λ b. cond b (z ∷ filter p zs) (filter p zs)) h.0 ∙ ap (λ l. cond (q z) (z ∷ l) l) (filter_same p q zs h.1)

-- what two tests keep
pub filter_twice : (p q : Record → Bool) (zs : List Record) → filter p (filter q zs) ≡ filter (λ z. q z && p z) zs
filter_twice p q [] = refl
filter_twice p q (z ∷ zs) = by (q z) (filter_twice p q zs)
  where
    by : (b : Bool) → filter p (filter q zs) ≡ filter (λ y. q y && p y) zs → filter p (cond b (z ∷ filter q zs) (filter q zs)) ≡ cond (b && p z) (z ∷ filter (λ y. q y && p y) zs) (filter (λ y. q y && p y) zs)
    by true e = ap (λ l. cond (p z) (z ∷ l) l) e
    by false e = e

-- in front of all others
inserted_front : (r : Record) (zs : List Record) → AllByRecursion (IsBefore r) zs → inserted r zs ≡ r ∷ zs
inserted_front r [] h = refl
inserted_front r (z ∷ zs) h = rw (held_before r z h.0) refl

or_false : (b : Bool) → (b || false) ≡ b
or_false true = refl
or_false false = refl

-- a record of a list in order that a filter didn't keep, among those that it kept
pub inserted_kept : (p : Record → Bool) (zs : List Record) (r : Record) → Rises IsBefore zs → IsIn r zs → p r ≡ false → inserted r (filter p zs) ≡ filter (λ z. p z || is_same_record r z) zs
inserted_kept p [] r h k e = absurd k
inserted_kept p (z ∷ zs) r h (inl is) e = subst (λ s. p s ≡ false → inserted s (filter p (z ∷ zs)) ≡ filter (λ y. p y || is_same_record s y) (z ∷ zs)) is here e
  where
    here : p z ≡ false → inserted z (filter p (z ∷ zs)) ≡ filter (λ y. p y || is_same_record z y) (z ∷ zs)
    here not_kept =
        rw (not_kept, same_itself z)
        (inserted_front z (filter p zs) (each_filter p (IsBefore z) zs h.0)
        ∙ ap (λ l. z ∷ l) (filter_same p (λ y. p y || is_same_record z y) zs (each_weaker (IsBefore z) (λ y. p y ≡ (p y || is_same_record z y)) (λ y before. sym (ap (λ b. p y || b) (not_same_behind z y before) ∙ or_false (p y))) zs h.0)))
inserted_kept p (z ∷ zs) r h (inr k) e = by (p z) (inserted_kept p zs r h.1 k e)
  where
    before : IsBefore z r
    before = each_in (IsBefore z) zs r h.0 k

    by : (b : Bool) → inserted r (filter p zs) ≡ filter (λ y. p y || is_same_record r y) zs → inserted r (cond b (z ∷ filter p zs) (filter p zs)) ≡ cond (b || is_same_record r z) (z ∷ filter (λ y. p y || is_same_record r y) zs) (filter (λ y. p y || is_same_record r y) zs)
    by true rest = rw (not_before z r before) (ap (λ l. z ∷ l) rest)
    by false rest = rw (not_same_before z r before) rest

-- which isn't among them
pub not_among_kept : (p : Record → Bool) (zs : List Record) (r : Record) → Rises IsBefore zs → IsIn r zs → p r ≡ false → is_among (filter p zs) r ≡ false
not_among_kept p [] r h k e = refl
not_among_kept p (z ∷ zs) r h (inl is) e = subst (λ s. p s ≡ false → is_among (filter p (z ∷ zs)) s ≡ false) is here e
  where
    none : (ys : List Record) → AllByRecursion (IsBefore z) ys → is_among ys z ≡ false
    none [] m = refl
    none (y ∷ ys) m = rw (not_same_behind z y m.0) (none ys m.1)

    here : p z ≡ false → is_among (filter p (z ∷ zs)) z ≡ false
    here not_kept = rw not_kept (none (filter p zs) (each_filter p (IsBefore z) zs h.0))
not_among_kept p (z ∷ zs) r h (inr k) e = by (p z) (not_among_kept p zs r h.1 k e)
  where
    by : (b : Bool) → is_among (filter p zs) r ≡ false → is_among (cond b (z ∷ filter p zs) (filter p zs)) r ≡ false
    by true rest = rw (not_same_before z r (each_in (IsBefore z) zs r h.0 k)) rest
    by false rest = rest

pub joined_kept : (p : Record → Bool) (zs : List Record) (r : Record) → Rises IsBefore zs → IsIn r zs → p r ≡ false → joined r (filter p zs) ≡ filter (λ z. p z || is_same_record r z) zs
joined_kept p zs r h k e = rw (not_among_kept p zs r h k e) (inserted_kept p zs r h k e)

-- a record that a filter keeps is among what it keeps
pub among_kept : (p : Record → Bool) (zs : List Record) (r : Record) → IsIn r zs → p r ≡ true → is_among (filter p zs) r ≡ true
among_kept p zs r k e = among_from_in (filter p zs) r (kept_in p zs r k e)

-- and goes from it
pub removed_kept : (p : Record → Bool) (zs : List Record) (r : Record) → removed r (filter p zs) ≡ filter (λ z. p z && not (is_same_record r z)) zs
removed_kept p zs r = filter_twice (λ z. not (is_same_record r z)) p zs
