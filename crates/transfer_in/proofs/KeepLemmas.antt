-- What held records keep while records come and go.
use Rattle.std.proofs.Common.{◌≡◌, refl, sym, ap, ◌∙◌, subst, ℕ, ◌+◌, ◌≤◌, nat_le, Bool, true, false, ◌&&◌, ◌||◌, cond, List, [], ◌∷◌, length, filter, arith, true≢false, Ok, Err, Result}
use Rattle.std.specs.List.{AllByRecursion}
use Rattle.std.specs.List.Sorted.{IsStrictlySortedBy}
use Rattle.std.specs.Ordering.{is_lt, is_eq, ordering_reverse}
use Rattle.std.specs.declared.cmp.Ordering.{Ordering}
use Rattle.std.specs.declared.cmp.Ordering.TheVariants.{Less, Equal, Greater}
use Rattle.std.proofs.lemmas.Bool.Decides.{nat_tests}
use Rattle.dns_name.specs.Name.{Name, is_under}
use Rattle.dns_rdata.specs.Record.{Record, IsLawful}
use Rattle.zone_tree.specs.Zone.{rrset_of, is_of}
use Rattle.zone_tree.specs.Change.{is_same_record}
use Rattle.zone_tree.proofs.Rising.{each_weaker, each_filter}
use Rattle.transfer_core.specs.declared.fault.TransferFault.{TransferFault}
use Rattle.transfer_core.specs.declared.fault.TransferFault.TheVariants.{NotInZone}
use Rattle.transfer_core.specs.Take.{Stage, Reading, held, held_cmp, is_among, inserted}
use Rattle.transfer_in.specs.ListState.{AreHeld}
use Rattle.transfer_in.specs.Held.{held_total}
use Rattle.transfer_core.proofs.RecordLemmas.{both}
use Rattle.transfer_in.proofs.HoldingLemmas.{same_tied, counted_in, no_more, alike_sets}
use Rattle.transfer_core.proofs.ZoneLemmas.{fewer_kept}

-- each record of a list with one more
pub each_inserted : (P : Record → Type 0) (r : Record) (zs : List Record) → P r → AllByRecursion P zs → AllByRecursion P (inserted r zs)
each_inserted P r [] h k = (h, tt)
each_inserted P r (z ∷ zs) h k = by (is_lt (held_cmp r z)) (each_inserted P r zs h k.1)
  where
    by : (b : Bool) → AllByRecursion P (inserted r zs) → AllByRecursion P (cond b (r ∷ z ∷ zs) (z ∷ inserted r zs))
    by true rest = (h, k)
    by false rest = (k.0, rest)

neither : (a b : Bool) → (a || b) ≡ false → (a ≡ false) × (b ≡ false)
neither true b e = cc
neither false b e = (refl, e)

-- the order of a list with one more, or with fewer
below_all : (r z : Record) (zs : List Record) → held_cmp r z ≡ Less → AllByRecursion (λ y. held_cmp z y ≡ Less) zs → AllByRecursion (λ y. held_cmp r y ≡ Less) zs
below_all r z zs h k = each_weaker (λ y. held_cmp z y ≡ Less) (λ y. held_cmp r y ≡ Less) (λ y m. held_total.trans r z y h m) zs k

inserted_rises : (r : Record) (zs : List Record) → IsStrictlySortedBy held_cmp zs → is_among zs r ≡ false → IsStrictlySortedBy held_cmp (inserted r zs)
unfolding IsStrictlySortedBy
inserted_rises r [] h e = (tt, tt)
inserted_rises r (z ∷ zs) h e =
    let parts = neither (is_same_record r z) (is_among zs r) e in
    by (held_cmp r z) refl (sym (same_tied r z) ∙ parts.0) (inserted_rises r zs h.1 parts.1)
  where
    by : (o : Ordering) → held_cmp r z ≡ o → is_eq (held_cmp r z) ≡ false → IsStrictlySortedBy held_cmp (inserted r zs) → IsStrictlySortedBy held_cmp (cond (is_lt o) (r ∷ z ∷ zs) (z ∷ inserted r zs))
    by Less f apart rest = ((f, below_all r z zs f h.0), h)
    by Equal f apart rest = absurd (true≢false (ap is_eq (sym f) ∙ apart))
    by Greater f apart rest =
        let before : held_cmp z r ≡ Less = held_total.antisymm z r ∙ ap ordering_reverse f in
        (each_inserted (λ y. held_cmp z y ≡ Less) r zs before h.0, rest)

filter_rises : (p : Record → Bool) (zs : List Record) → IsStrictlySortedBy held_cmp zs → IsStrictlySortedBy held_cmp (filter p zs)
unfolding IsStrictlySortedBy
filter_rises p [] h = tt
filter_rises p (z ∷ zs) h = by (p z) (filter_rises p zs h.1)
  where
    by : (b : Bool) → IsStrictlySortedBy held_cmp (filter p zs) → IsStrictlySortedBy held_cmp (cond b (z ∷ filter p zs) (filter p zs))
    by true rest = (each_filter p (λ y. held_cmp z y ≡ Less) zs h.0, rest)
    by false rest = rest

-- what is told of records that are held
pub record IsWithin (apex : Name) (r : Record) (records : List Record) : Type 0 where
  pub under : is_under r.owner apex ≡ true
  pub short : length r.rdata ≤ 4096
  pub small : length (rrset_of records r.owner r.rtype) ≤ 256
  pub few : length records ≤ 1000000

at_most : (m n : ℕ) → nat_le m n ≡ true → m ≤ n
at_most m n e = grind (arith, nat_tests)

within : (apex : Name) (r : Record) (records : List Record) → (is_under r.owner apex && nat_le (length r.rdata) 4096 && nat_le (length (rrset_of records r.owner r.rtype)) 256 && nat_le (length records) 1000000) ≡ true → IsWithin apex r records
within apex r records e =
    let few = both _ (nat_le (length records) 1000000) e in
    let small = both _ (nat_le (length (rrset_of records r.owner r.rtype)) 256) few.0 in
    let short = both _ (nat_le (length r.rdata) 4096) small.0 in
    record { under = short.0; short = at_most (length r.rdata) 4096 short.1; small = at_most (length (rrset_of records r.owner r.rtype)) 256 small.1; few = at_most (length records) 1000000 few.1 }

abbrev pub given : Stage → List Record → Reading
given stage records = record { stage = stage; records = records }

abbrev outcome : Reading → Bool → Result Reading TransferFault
outcome reading b = cond b (Ok reading) (Err NotInZone)

abbrev limits_of : Name → Record → List Record → Bool
limits_of apex r records = is_under r.owner apex && nat_le (length r.rdata) 4096 && nat_le (length (rrset_of records r.owner r.rtype)) 256 && nat_le (length records) 1000000

pub held_within_limits : (apex : Name) (stage : Stage) (r : Record) (records : List Record) (next : Reading) → held apex stage r records ≡ Ok next → IsWithin apex r records × (next ≡ given stage records)
held_within_limits apex stage r records next e = by (limits_of apex r records) refl e
  where
    by : (b : Bool) → limits_of apex r records ≡ b → outcome (given stage records) b ≡ Ok next → IsWithin apex r records × (next ≡ given stage records)
    by true f g = (within apex r records f, cc)
    by false f g = absurd (cc)

module _ (apex : Name) (records : List Record) (h : AreHeld apex records) where
  -- one record more
  pub inserted_held : (r : Record) → IsLawful r → is_among records r ≡ false → IsWithin apex r (inserted r records) → AreHeld apex (inserted r records)
  inserted_held r lawful apart limits = record {
    lawful = each_inserted IsLawful r records lawful h.lawful;
    rises = inserted_rises r records h.rises apart;
    under = each_inserted (λ s. is_under s.owner apex ≡ true) r records limits.under h.under;
    short = each_inserted (λ s. length s.rdata ≤ 4096) r records limits.short h.short;
    small = each_inserted (λ s. length (rrset_of (inserted r records) s.owner s.rtype) ≤ 256) r records limits.small (each_weaker (λ s. length (rrset_of records s.owner s.rtype) ≤ 256) (λ s. length (rrset_of (inserted r records) s.owner s.rtype) ≤ 256) others records h.small);
    few = limits.few;
  }
    where
      others : (s : Record) → length (rrset_of records s.owner s.rtype) ≤ 256 → length (rrset_of (inserted r records) s.owner s.rtype) ≤ 256
      others s k = by (is_of s.owner s.rtype r) refl (counted_in (is_of s.owner s.rtype) r records)
        where
          by : (b : Bool) → is_of s.owner s.rtype r ≡ b → length (rrset_of (inserted r records) s.owner s.rtype) ≡ length (rrset_of records s.owner s.rtype) + cond b 1 0 → length (rrset_of (inserted r records) s.owner s.rtype) ≤ 256
          by true e counted = subst (λ l. length l ≤ 256) (alike_sets r s.owner s.rtype (inserted r records) e) limits.small
          by false e counted = omega (arith, counted, k)

  -- fewer records
  pub filter_held : (p : Record → Bool) → AreHeld apex (filter p records)
  filter_held p = record {
    lawful = each_filter p IsLawful records h.lawful;
    rises = filter_rises p records h.rises;
    under = each_filter p (λ s. is_under s.owner apex ≡ true) records h.under;
    short = each_filter p (λ s. length s.rdata ≤ 4096) records h.short;
    small = each_filter p (λ s. length (rrset_of (filter p records) s.owner s.rtype) ≤ 256) records (each_weaker (λ s. length (rrset_of records s.owner s.rtype) ≤ 256) (λ s. length (rrset_of (filter p records) s.owner s.rtype) ≤ 256) (λ s k. fewer_set s k) records h.small);
    few = fewer_all;
  }
    where
      fewer_set : (s : Record) → length (rrset_of records s.owner s.rtype) ≤ 256 → length (rrset_of (filter p records) s.owner s.rtype) ≤ 256
      fewer_set s k = omega (arith, fewer_kept (is_of s.owner s.rtype) p records, k)

      fewer_all : length (filter p records) ≤ 1000000
      fewer_all = omega (arith, no_more p records, h.few)
