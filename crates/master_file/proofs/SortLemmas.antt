-- Records of a text in another order, which keeps that of each set, have one zone.
use Rattle.std.proofs.Common.{◌≡◌, refl, sym, ap, ◌∙◌, subst, ◌+◌, Bool, true, false, cond, not, ◌&&◌, List, [], ◌∷◌, map, get_or, arith, true≢false, ⊎_elim}
use Rattle.std.specs.Prelude.{Contains}
use Rattle.std.specs.declared.cmp.Ordering.{Ordering}
use Rattle.std.specs.declared.cmp.Ordering.TheVariants.{Less, Equal, Greater}
use Rattle.std.specs.BTreeSet.{insert_key}
use Rattle.std.specs.Cmp.{tied_then}
use Rattle.std.specs.List.{filter, AllByRecursion}
use Rattle.std.specs.List.Sorted.{IsSorted, IsPermutation, IsStable, ties}
use Rattle.std.specs.Ordering.{is_eq, is_lt, is_gt, match_ordering, nat_cmp, ordering_reverse}
use Rattle.std.proofs.lemmas.Cmp.{upto}
use Rattle.std.proofs.lemmas.List.Sorted.{Contains-permutation, IsPermutation-sym}
use Rattle.std.proofs.lemmas.Map.Text.{is_eq-slice_cmp}
use Rattle.std.proofs.lemmas.Slice.Eq.{bytes_eq-Decides}
use Rattle.dns_name.specs.Name.{fold_name, canonical_cmp}
use Rattle.dns_rdata.specs.Record.{Record, record_cmp}
use Rattle.zone_tree.specs.Zone.{is_of}
use Rattle.zone_tree.proofs.LawLemmas.{same_lists}
use Rattle.zone_tree.proofs.Rising.{Rises, each_weaker, each_map, rises_from_adjacent}
use Rattle.master_file.specs.declared.record_entry.RecordEntry.{RecordEntry}
use Rattle.master_file.specs.ZoneText.{record_in, with_one, with_all, timed, in_lower, zone_records}
use Rattle.master_file.specs.SetOrder.{set_order, set_order_total}
use Rattle.master_file.proofs.PutLemmas.{IsUpTo, same_by_set}
use Rattle.master_file.proofs.AgainLemmas.{first_or_behind, is_first, is_behind, each_contained, each_in}
use Rattle.master_file.proofs.JudgeLemmas.{ascends_all}
use Rattle.master_file.proofs.RuleLemmas.{tied_parts}
use Rattle.master_file.proofs.ShownLemmas.{shown, one_ttl, is_read, each_any, own_set, timed_owner, timed_rtype, timed_rdata, each_of_all, ascends_shown}

-- in order, each is in no set behind another's
turned_by : (o : Ordering) → is_lt (ordering_reverse o) ≡ is_gt o
turned_by Less = refl
turned_by Equal = refl
turned_by Greater = refl

pub rises_sorted : (all : List RecordEntry) → IsSorted set_order all → Rises IsUpTo all
rises_sorted all h =
    rises_from_adjacent IsUpTo (upto set_order_total) all (λ k d l.
    let a = get_or all k d in
    let b = get_or all (k + 1) d in
    sym (turned_by (set_order a b)) ∙ ap is_lt (sym (set_order_total.antisymm b a)) ∙ h k d (omega arith) l)

-- the TTL of a set rests on the set's own records, in their order
abbrev of_set : Record → RecordEntry → Bool
of_set r p = is_of r.owner r.rtype (record_in p)

timed_by : (b : Bool) (p : RecordEntry) (rest : List RecordEntry) (r : Record) → of_set r p ≡ b → ((s : Record) → s.owner ≡ r.owner → s.rtype ≡ r.rtype → timed rest s ≡ timed (filter (of_set r) rest) s) → timed rest (cond b (record r { ttl = p.ttl.0 }) r) ≡ timed (cond b (p ∷ filter (of_set r) rest) (filter (of_set r) rest)) r
timed_by true p rest r e more = more (record r { ttl = p.ttl.0 }) refl refl ∙ ap (λ (b : Bool). timed (filter (of_set r) rest) (cond b (record r { ttl = p.ttl.0 }) r)) (sym e)
timed_by false p rest r e more = more r refl refl

timed_own : (ps : List RecordEntry) (r s : Record) → s.owner ≡ r.owner → s.rtype ≡ r.rtype → timed ps s ≡ timed (filter (of_set r) ps) s
timed_own ps r s eo et = subst (λ (test : RecordEntry → Bool). timed ps s ≡ timed (filter test ps) s) (λ i p. is_of (eo i) (et i) (record_in p)) (own ps s)
  where
    own : (ps : List RecordEntry) (r : Record) → timed ps r ≡ timed (filter (of_set r) ps) r
    own [] r = refl
    own (p ∷ ps) r = timed_by (of_set r p) p ps r refl (λ s eo et. own ps s ∙ ap (λ (test : RecordEntry → Bool). timed (filter test ps) s) (λ i q. is_of (eo i) (et i) (record_in q)))

filter_alike : (p q : RecordEntry → Bool) → ((x : RecordEntry) → p x ≡ q x) → (xs : List RecordEntry) → filter p xs ≡ filter q xs
filter_alike p q same [] = refl
filter_alike p q same (x ∷ xs) = ap (λ (b : Bool). cond b (x ∷ filter p xs) (filter p xs)) (same x) ∙ ap (λ (l : List RecordEntry). cond (q x) (x ∷ l) l) (filter_alike p q same xs)

ties_by : (o : Ordering) → (not (is_lt (ordering_reverse o)) && not (is_lt o)) ≡ is_eq o
ties_by Less = refl
ties_by Equal = refl
ties_by Greater = refl

ties_of_set : (p q : RecordEntry) → ties (λ (x y : RecordEntry). is_lt (set_order x y)) p q ≡ of_set (record_in p) q
ties_of_set p q =
    ap (λ (o : Ordering). not (is_lt o) && not (is_lt (set_order q p))) (set_order_total.antisymm p q)
    ∙ ties_by (set_order q p) ∙ same_by_set (record_in q) (record_in p)

timed_stable : (ps qs : List RecordEntry) → IsStable set_order ps qs → (p : RecordEntry) → timed qs (record_in p) ≡ timed ps (record_in p)
timed_stable ps qs stable p =
    let r = record_in p in
    timed_own qs r r refl refl
    ∙ ap (λ (l : List RecordEntry). timed l r) (filter_alike (of_set r) (ties (λ (x y : RecordEntry). is_lt (set_order x y)) p) (λ q. sym (ties_of_set p q)) qs ∙ stable p ∙ filter_alike (ties (λ (x y : RecordEntry). is_lt (set_order x y)) p) (of_set r) (ties_of_set p) ps)
    ∙ sym (timed_own ps r r refl refl)

-- records that tie are shown alike
same_data : (r s : Record) → record_cmp r s ≡ Equal → r.rdata ≡ s.rdata
same_data r s e =
    let tie : is_eq (record_cmp r s) ≡ true = ap is_eq e in
    let first = both_true (is_eq (canonical_cmp r.owner s.owner)) _ (tied_then (canonical_cmp r.owner s.owner) _ ∙ tie) in
    let more = both_true (is_eq (nat_cmp r.rtype s.rtype)) _ (tied_then (nat_cmp r.rtype s.rtype) _ ∙ first.1) in
    (bytes_eq-Decides r.rdata s.rdata).0 (sym (is_eq-slice_cmp r.rdata s.rdata) ∙ more.1)
  where
    both_true : (a b : Bool) → (a && b) ≡ true → (a ≡ true) × (b ≡ true)
    both_true true b e = (refl, e)
    both_true false b e = absurd (true≢false (sym e))

shown_tied : (ps : List RecordEntry) (r s : Record) → record_cmp r s ≡ Equal → is_read ps r ≡ true → shown ps r ≡ shown ps s
shown_tied ps r s e read =
    let parts = tied_parts r s e in
    let owner : fold_name (timed ps r).owner ≡ fold_name (timed ps s).owner = ap fold_name (timed_owner ps r) ∙ parts.0 ∙ ap fold_name (sym (timed_owner ps s)) in
    let rtype : (timed ps r).rtype ≡ (timed ps s).rtype = timed_rtype ps r ∙ parts.1 ∙ sym (timed_rtype ps s) in
    let ttl : (timed ps r).ttl ≡ (timed ps s).ttl = one_ttl ps r s (record { owner = parts.0; rtype = parts.1 }) read in
    let rdata : (timed ps r).rdata ≡ (timed ps s).rdata = timed_rdata ps r ∙ same_data r s e ∙ sym (timed_rdata ps s) in
    λ i. record { owner = owner i; rtype = rtype i; ttl = ttl i; rdata = rdata i }

-- what is kept stays, and one more is there, as they are shown
module _ (f : Record → Record) where
  stays_placed : (k x : Record) (xs more : List Record) (o : Ordering) (y : Record) → Contains (map f (x ∷ xs)) y → (Contains (map f xs) y → Contains (map f more) y) → Contains (map f (match_ordering o (k ∷ x ∷ xs) (x ∷ xs) (x ∷ more))) y
  stays_placed k x xs more Less y h m = is_behind (f k) (map f (x ∷ xs)) y h
  stays_placed k x xs more Equal y h m = h
  stays_placed k x xs more Greater y h m = ⊎_elim (λ e. subst (λ (z : Record). Contains (f x ∷ map f more) z) e (is_first (f x) (map f more))) (λ behind. is_behind (f x) (map f more) y (m behind)) (first_or_behind (f x) (map f xs) y h)

  stays : (k : Record) (xs : List Record) (y : Record) → Contains (map f xs) y → Contains (map f (insert_key record_cmp xs k)) y
  stays k [] y h = absurd (omega (arith, h.1))
  stays k (x ∷ xs) y h = stays_placed k x xs (insert_key record_cmp xs k) (record_cmp k x) y h (stays k xs y)

  there_placed : (k x : Record) (xs more : List Record) (o : Ordering) → record_cmp k x ≡ o → (record_cmp k x ≡ Equal → f k ≡ f x) → Contains (map f more) (f k) → Contains (map f (match_ordering o (k ∷ x ∷ xs) (x ∷ xs) (x ∷ more))) (f k)
  there_placed k x xs more Less e same h = is_first (f k) (map f (x ∷ xs))
  there_placed k x xs more Equal e same h = subst (λ (z : Record). Contains (f x ∷ map f xs) z) (sym (same e)) (is_first (f x) (map f xs))
  there_placed k x xs more Greater e same h = is_behind (f x) (map f more) (f k) h

  there : (k : Record) → ((x : Record) → record_cmp k x ≡ Equal → f k ≡ f x) → (xs : List Record) → Contains (map f (insert_key record_cmp xs k)) (f k)
  there k same [] = is_first (f k) []
  there k same (x ∷ xs) = there_placed k x xs (insert_key record_cmp xs k) (record_cmp k x) refl (same x) (there k same xs)

  stays_all : (kept : List Record) (ps : List RecordEntry) (y : Record) → Contains (map f kept) y → Contains (map f (with_all kept ps)) y
  stays_all kept [] y h = h
  stays_all kept (p ∷ ps) y h = stays_all (with_one kept p) ps y (stays (record_in p) kept y h)

  all_there : (kept : List Record) (ps : List RecordEntry) → AllByRecursion (λ p. (x : Record) → record_cmp (record_in p) x ≡ Equal → f (record_in p) ≡ f x) ps → AllByRecursion (λ p. Contains (map f (with_all kept ps)) (f (record_in p))) ps
  all_there kept [] h = tt
  all_there kept (p ∷ ps) h = (stays_all (with_one kept p) ps (f (record_in p)) (there (record_in p) h.0 kept), all_there (with_one kept p) ps h.1)

-- each record read is among those of the zone, as it is shown
each_shown : (ps : List RecordEntry) → AllByRecursion (λ p. Contains (zone_records ps) (shown ps (record_in p))) ps
each_shown ps =
    all_there (shown ps) [] ps (each_weaker (λ p. is_read ps (record_in p) ≡ true) (λ p. (x : Record) → record_cmp (record_in p) x ≡ Equal → shown ps (record_in p) ≡ shown ps x)
    (λ p read x e. shown_tied ps (record_in p) x e read) ps (each_any (λ (p q : RecordEntry). of_set (record_in p) q) (λ (p : RecordEntry). own_set (record_in p)) ps))

each_by : {X : Type 0} (P : X → Type 0) (xs : List X) → ((x : X) → Contains xs x → P x) → AllByRecursion P xs
each_by P xs f = each_weaker (λ x. Contains xs x) P f xs (each_in xs)

-- records that are in both, with the TTLs of both
half : (ps qs : List RecordEntry) → ((p : RecordEntry) → Contains ps p → Contains qs p) → ((p : RecordEntry) → timed ps (record_in p) ≡ timed qs (record_in p)) → (r : Record) → Contains (zone_records ps) r → Contains (zone_records qs) r
half ps qs within same r h =
    let each = each_of_all (λ k. Contains (zone_records qs) (shown ps k)) [] ps tt
    (each_by (λ p. Contains (zone_records qs) (shown ps (record_in p))) ps (λ p m. subst (λ (s : Record). Contains (zone_records qs) s) (ap in_lower (sym (same p))) (each_contained (λ q. Contains (zone_records qs) (shown qs (record_in q))) qs p (each_shown qs) (within p m)))) in
    each_contained (λ s. Contains (zone_records qs) s) (zone_records ps) r (each_map (λ s. Contains (zone_records qs) s) (shown ps) (with_all [] ps) each) h

-- the zone of records that are sorted by their sets
pub zone_sorted : (ps qs : List RecordEntry) → IsPermutation ps qs → IsStable set_order ps qs → zone_records qs ≡ zone_records ps
zone_sorted ps qs moved stable =
    same_lists (zone_records qs) (zone_records ps) (ascends_shown qs (with_all [] qs) (ascends_all [] qs tt)) (ascends_shown ps (with_all [] ps) (ascends_all [] ps tt))
    (λ r. (
      half qs ps (λ p m. Contains-permutation qs ps p (IsPermutation-sym ps qs moved) m) (timed_stable ps qs stable) r,
      half ps qs (λ p m. Contains-permutation ps qs p moved m) (λ p. sym (timed_stable ps qs stable p)) r,
    ))
