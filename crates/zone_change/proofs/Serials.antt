-- What two zones have that the other hasn't doesn't depend on their serials.
use Rattle.std.proofs.Common.{◌≡◌, refl, sym, ap, ◌∙◌, subst, ℕ, Bool, true, false, ◌&&◌, ◌||◌, not, ◌==◌, cond, List, [], ◌∷◌, true≢false}
use Rattle.std.specs.List.{list_any}
use Rattle.dns_rdata.specs.Numbers.{type_SOA}
use Rattle.dns_rdata.specs.Data.{with_serial}
use Rattle.dns_rdata.specs.Record.{Record}
use Rattle.zone_tree.specs.Zone.{soa_of}
use Rattle.zone_tree.specs.Change.{is_same_record, left_out}
use Rattle.zone_tree.specs.Patch.{is_among}
use Rattle.update_core.specs.Act.{at_serial}
use Rattle.zone_change.proofs.Lists.{IsIn, same_type, is_one, each_from, kept_in, in_kept, any_in, by_false, filter_same, same_lists}
use Rattle.zone_change.proofs.Steps.{IsPlain, lawful_in}

no_soa : (r s : Record) → (r.rtype == type_SOA) ≡ false → (s.rtype == type_SOA) ≡ true → is_same_record r s ≡ false
no_soa r s e f = by_false (is_same_record r s) (λ t. true≢false (sym f ∙ ap (λ x. x == type_SOA) (sym (same_type r s t)) ∙ e))

among_at : (n : ℕ) (r : Record) → (r.rtype == type_SOA) ≡ false → (zs : List Record) → is_among (at_serial n zs) r ≡ is_among zs r
among_at n r e [] = refl
among_at n r e (z ∷ zs) = (λ i. by (z.rtype == type_SOA) refl i || among_at n r e zs i)
  where
    by : (b : Bool) → (z.rtype == type_SOA) ≡ b → is_same_record r (cond b (record z { rdata = with_serial n z.rdata }) z) ≡ is_same_record r z
    by true f = no_soa r (record z { rdata = with_serial n z.rdata }) e f ∙ sym (no_soa r z e f)
    by false f = refl

pub out_of_serial : (n : ℕ) (zone other : List Record) → left_out zone (at_serial n other) ≡ left_out zone other
out_of_serial n zone other =
    filter_same (λ r. not (r.rtype == type_SOA) && not (list_any (is_same_record r) (at_serial n other))) (λ r. not (r.rtype == type_SOA) && not (list_any (is_same_record r) other)) zone
    (each_from (λ r. (not (r.rtype == type_SOA) && not (list_any (is_same_record r) (at_serial n other))) ≡ (not (r.rtype == type_SOA) && not (list_any (is_same_record r) other))) zone (λ r m. by r (r.rtype == type_SOA) refl))
  where
    by : (r : Record) (b : Bool) → (r.rtype == type_SOA) ≡ b → (not b && not (list_any (is_same_record r) (at_serial n other))) ≡ (not b && not (list_any (is_same_record r) other))
    by r true e = refl
    by r false e = ap not (among_at n r e other)

pub serial_left_out : (n : ℕ) (zone other : List Record) → left_out (at_serial n zone) other ≡ left_out zone other
serial_left_out n [] other = refl
serial_left_out n (z ∷ zs) other = by (z.rtype == type_SOA) refl (serial_left_out n zs other)
  where
    test : Record → Bool
    test r = not (r.rtype == type_SOA) && not (list_any (is_same_record r) other)

    by : (b : Bool) → (z.rtype == type_SOA) ≡ b → left_out (at_serial n zs) other ≡ left_out zs other
        → cond (test (cond b (record z { rdata = with_serial n z.rdata }) z)) (cond b (record z { rdata = with_serial n z.rdata }) z ∷ left_out (at_serial n zs) other) (left_out (at_serial n zs) other) ≡ cond (test z) (z ∷ left_out zs other) (left_out zs other)
    by true e rest = rw e rest
    by false e rest = ap (λ l. cond (test z) (z ∷ l) l) rest

pub soa_at : (n : ℕ) (zone : List Record) → soa_of (at_serial n zone) ≡ at_serial n (soa_of zone)
soa_at n [] = refl
soa_at n (z ∷ zs) = by (z.rtype == type_SOA) refl (soa_at n zs)
  where
    by : (b : Bool) → (z.rtype == type_SOA) ≡ b → soa_of (at_serial n zs) ≡ at_serial n (soa_of zs)
        → cond ((cond b (record z { rdata = with_serial n z.rdata }) z).rtype == type_SOA) (cond b (record z { rdata = with_serial n z.rdata }) z ∷ soa_of (at_serial n zs)) (soa_of (at_serial n zs)) ≡ at_serial n (cond (z.rtype == type_SOA) (z ∷ soa_of zs) (soa_of zs))
    by true e rest =
        let own : Record = record z { rdata = with_serial n z.rdata } in
        (λ i. cond (e i) (own ∷ soa_of (at_serial n zs)) (soa_of (at_serial n zs)))
        ∙ ap (λ l. own ∷ l) rest
        ∙ (λ i. cond (sym e i) own z ∷ at_serial n (soa_of zs))
        ∙ ap (at_serial n) (λ i. cond (sym e i) (z ∷ soa_of zs) (soa_of zs))
    by false e rest = rw e rest

-- zones of which neither has what the other hasn't, SOA included, are one
module _ (old next : List Record) (h : IsPlain old) (k : IsPlain next) (soa : soa_of old ≡ soa_of next) where
  crosses : (xs ys : List Record) → IsPlain xs → IsPlain ys → left_out xs ys ≡ [] → soa_of xs ≡ soa_of ys → (r : Record) → IsIn r xs → IsIn r ys
  crosses xs ys a b none same r m = by (r.rtype == type_SOA) refl (is_among ys r) refl
    where
      by : (s : Bool) → (r.rtype == type_SOA) ≡ s → (t : Bool) → is_among ys r ≡ t → IsIn r ys
      by true e t f = (in_kept (λ x. x.rtype == type_SOA) ys r (subst (IsIn r) same (kept_in (λ x. x.rtype == type_SOA) xs r m e))).0
      by false e true f =
          let found = any_in (is_same_record r) ys f in
          subst (λ x. IsIn x ys) (sym (is_one r found.0 found.2 (lawful_in xs a r m) (lawful_in ys b found.0 found.1))) found.1
      by false e false f =
          absurd (subst (IsIn r) none (kept_in (λ x. not (x.rtype == type_SOA) && not (list_any (is_same_record x) ys)) xs r m (λ i. not (e i) && not (f i))))

  pub one_zone : left_out old next ≡ [] → left_out next old ≡ [] → old ≡ next
  one_zone none nothing = same_lists old next h.ascending k.ascending (crosses old next h k none soa) (crosses next old k h nothing (sym soa))
