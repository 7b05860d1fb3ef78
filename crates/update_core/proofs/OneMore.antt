-- One more record among records in order, and what a filter keeps of them.
use Rattle.std.proofs.Common.{◌≡◌, ◌≤◌, Bool, true, false, cond, List, [], ◌∷◌, length, filter, All, refl, sym, ap, ◌∙◌, arith}
use Rattle.std.specs.List.{AllByRecursion}
use Rattle.std.specs.Ordering.{is_lt, is_eq, nat_cmp, ordering_then, ordering_reverse}
use Rattle.std.specs.declared.cmp.Ordering.{Ordering}
use Rattle.std.specs.declared.cmp.Ordering.TheVariants.{Less, Equal, Greater}
use Rattle.std.specs.Cmp.Lexicographic.{slice_cmp}
use Rattle.std.proofs.lemmas.Cmp.{ranked}
use Rattle.std.proofs.lemmas.Map.Text.{is_eq-slice_cmp}
use Rattle.std.proofs.lemmas.Slice.Eq.{bytes_eq-Decides}
use Rattle.std.proofs.lemmas.List.Elements.{All-from_recursion, recursion_from_All}
use Rattle.dns_name.specs.Name.{Name, is_same, canonical_cmp}
use Rattle.dns_name.specs.Order.{is_same_equiv}
use Rattle.dns_rdata.specs.Record.{Record, record_cmp}
use Rattle.dns_rdata.proofs.LawLemmas.{record_cmp_total}
use Rattle.zone_tree.specs.Zone.{IsBefore, stands_at}
use Rattle.zone_tree.proofs.NameOrder.{same_from_tie}
use Rattle.zone_tree.proofs.Rising.{Rises, each_weaker, filter_alike}
use Rattle.update_core.specs.Act.{with_one}
use Rattle.update_core.proofs.SoaKept.{grows, tied_numbers, All-with_one}

-- the three ways in which a record goes among others
by_order-at : (P : List Record → Type 0) (r z : Record) (zs : List Record) (o : Ordering) → (o ≡ Less → P (r ∷ z ∷ zs)) → (o ≡ Equal → P (z ∷ zs)) → (o ≡ Greater → P (z ∷ with_one r zs)) → P (cond (is_lt o) (r ∷ z ∷ zs) (cond (is_eq o) (z ∷ zs) (z ∷ with_one r zs)))
by_order-at P r z zs Less less equal greater = less refl
by_order-at P r z zs Equal less equal greater = equal refl
by_order-at P r z zs Greater less equal greater = greater refl

pub by_order : (P : List Record → Type 0) (r z : Record) (zs : List Record) → (record_cmp r z ≡ Less → P (r ∷ z ∷ zs)) → (record_cmp r z ≡ Equal → P (z ∷ zs)) → (record_cmp r z ≡ Greater → P (z ∷ with_one r zs)) → P (with_one r (z ∷ zs))
by_order P r z zs less equal greater = by_order-at P r z zs (record_cmp r z) less equal greater

less_from : (o : Ordering) → is_lt o ≡ true → o ≡ Less
less_from Less e = refl
less_from Equal e = cc
less_from Greater e = cc

pub before_chains : (r s t : Record) → IsBefore r s → IsBefore s t → IsBefore r t
before_chains r s t before after = ap is_lt (record_cmp_total.trans r s t (less_from (record_cmp r s) before) (less_from (record_cmp s t) after))

-- records in ascending order stay so
each_with_one : (P : Record → Type 0) (r : Record) (zs : List Record) → P r → AllByRecursion P zs → AllByRecursion P (with_one r zs)
each_with_one P r zs one each = recursion_from_All P (with_one r zs) (All-with_one P r zs one (All-from_recursion P zs each))

pub rises-with_one : (r : Record) (zs : List Record) → Rises IsBefore zs → Rises IsBefore (with_one r zs)
rises-with_one r [] h = (tt, tt)
rises-with_one r (z ∷ zs) h =
    by_order (Rises IsBefore) r z zs
    (λ less. let before : IsBefore r z = ap is_lt less in ((before, each_weaker (IsBefore z) (IsBefore r) (λ s after. before_chains r z s before after) zs h.0), h))
    (λ _. h)
    (λ greater. let behind : IsBefore z r = ap is_lt (record_cmp_total.antisymm z r ∙ ap ordering_reverse greater) in (each_with_one (IsBefore z) r zs behind h.0, rises-with_one r zs h.1))

-- records that tie have one owner but for case, one type and the same data
pub record IsTied (r s : Record) : Type 0 where
  pub owner : is_same r.owner s.owner ≡ true
  pub rtype : r.rtype ≡ s.rtype
  pub rdata : r.rdata ≡ s.rdata

all_tied : (a b c : Ordering) → ordering_then a (ordering_then b c) ≡ Equal → (a ≡ Equal) × (b ≡ Equal) × (c ≡ Equal)
all_tied Equal Equal c e = (refl, refl, e)
all_tied Equal Less c e = cc
all_tied Equal Greater c e = cc
all_tied Less b c e = cc
all_tied Greater b c e = cc

pub tied : (r s : Record) → record_cmp r s ≡ Equal → IsTied r s
tied r s e =
    let parts = all_tied (canonical_cmp r.owner s.owner) (nat_cmp r.rtype s.rtype) (slice_cmp nat_cmp r.rdata s.rdata) e in
    record {
      owner = same_from_tie r.owner s.owner parts.0;
      rtype = tied_numbers r.rtype s.rtype (nat_cmp r.rtype s.rtype) parts.1 (ranked r.rtype s.rtype (nat_cmp r.rtype s.rtype) refl);
      rdata = (bytes_eq-Decides r.rdata s.rdata).0 (sym (is_eq-slice_cmp r.rdata s.rdata) ∙ ap is_eq parts.2);
    }

-- a test of an owner tells no records apart that tie
pub tied_stands : (name : Name) (r s : Record) → record_cmp r s ≡ Equal → stands_at name s ≡ stands_at name r
tied_stands name r s e = sym (is_same_equiv.congr r.owner s.owner name (tied r s e).owner)

module _ (p : Record → Bool) (r : Record) where
  -- a filter that doesn't keep the record keeps what it did
  pub filter-with_one_not : (zs : List Record) → p r ≡ false → filter p (with_one r zs) ≡ filter p zs
  filter-with_one_not [] e = rw e refl
  filter-with_one_not (z ∷ zs) e =
      by_order (λ ys. filter p ys ≡ filter p (z ∷ zs)) r z zs
      (λ _. rw e refl)
      (λ _. refl)
      (λ _. ap (λ l. cond (p z) (z ∷ l) l) (filter-with_one_not zs e))

  -- one that keeps it, and none before, keeps it alone
  pub filter-with_one_alone : (zs : List Record) → p r ≡ true → ((z : Record) → record_cmp r z ≡ Equal → p z ≡ p r) → All (λ z. p z ≡ false) zs → filter p (with_one r zs) ≡ r ∷ []
  filter-with_one_alone zs e ties none = by_each zs (recursion_from_All (λ z. p z ≡ false) zs none)
    where
      by_each : (ys : List Record) → AllByRecursion (λ z. p z ≡ false) ys → filter p (with_one r ys) ≡ r ∷ []
      by_each [] h = rw e refl
      by_each (z ∷ ys) h =
          by_order (λ l. filter p l ≡ r ∷ []) r z ys
          (λ _. rw (e, h.0, filter_alike p false ys h.1) refl)
          (λ equal. let wrong = ties z equal in cc)
          (λ _. rw (h.0) (by_each ys h.1))

  grown : (b : Bool) (z : Record) (m n : List Record) → length m ≤ length n → length (cond b (z ∷ m) m) ≤ length (cond b (z ∷ n) n)
  grown true z m n h = omega arith
  grown false z m n h = h

  -- a filter keeps no fewer with the record
  pub filter-with_one_grows : (zs : List Record) → length (filter p zs) ≤ length (filter p (with_one r zs))
  filter-with_one_grows [] = omega arith
  filter-with_one_grows (z ∷ zs) =
      by_order (λ ys. length (filter p (z ∷ zs)) ≤ length (filter p ys)) r z zs
      (λ _. grows (p r) r (filter p (z ∷ zs)))
      (λ _. omega arith)
      (λ _. grown (p z) z (filter p zs) (filter p (with_one r zs)) (filter-with_one_grows zs))
