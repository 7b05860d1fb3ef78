-- The rows of an update that add keep a zone's rules and its apex (RFC 2136, 3.4.2.2).
use Rattle.std.proofs.Common.{◌≡◌, ◌⊎◌, inl, inr, ℕ, ◌<◌, Bool, true, false, not, ◌&&◌, ◌||◌, ◌==◌, List, [], ◌∷◌, map, length, get_or, All, refl, sym, ap, subst, ◌∙◌, arith, eq-eqb, None}
use Rattle.std.proofs.lemmas.Bool.{eqb-true}
use Rattle.std.proofs.lemmas.List.{length-map}
use Rattle.std.proofs.lemmas.List.Elements.{All-map, All-filter, All-weaker, filter_passes}
use Rattle.dns_name.specs.Name.{Name, is_same, fold_name}
use Rattle.dns_name.specs.Order.{is_same_equiv}
use Rattle.dns_rdata.specs.Numbers.{type_NS, type_CNAME, type_SOA}
use Rattle.dns_rdata.specs.Data.{serial_of}
use Rattle.dns_rdata.specs.Record.{Record, owner_of}
use Rattle.dns_rdata.specs.Raw.{RawRecord, ttl_in_zone}
use Rattle.dns_rdata.specs.SerialOrder.{serial_less}
use Rattle.zone_tree.specs.Zone.{KeepsRules, stands_at, is_of, rrset_of, soa_of, apex_of}
use Rattle.zone_tree.specs.Change.{without_rrset}
use Rattle.zone_tree.proofs.NameOrder.{folds_from_same}
use Rattle.zone_tree.proofs.Rising.{place_from_any}
use Rattle.zone_tree.proofs.RuleLemmas.{none_passes}
use Rattle.update_core.specs.Verdict.{prescan_of, has_rrset}
use Rattle.update_core.specs.Act.{entered, with_ttl, record_with_ttl, has_other_than_alias, has_lesser_soa, IsSent}
use Rattle.update_core.proofs.ListLemmas.{and_left, and_right, is_not, is_so, both_fail, left_fails, right_fails}
use Rattle.update_core.proofs.SoaKept.{is_soa}
use Rattle.update_core.proofs.OneMore.{filter-with_one_not, filter-with_one_alone, tied}
use Rattle.update_core.proofs.RulesBeside.{KeepsBeside, beside_from, rules_from, filter_beside}
use Rattle.update_core.proofs.RulesChanged.{filter-map, of_stays, FitsBeside, ttl_beside, ttl_owner, ttl_rtype, with_one_beside}
use Rattle.update_core.proofs.SentLemmas.{IsPassed, passed, entered_lawful, under_lower, wild_lower, stands_lower, of_lower, ttl_small}
use Rattle.update_core.proofs.Candidates.{put_in, added_to, Keeps, IsPut, IsAdded}
use Rattle.update_core.proofs.RowsKeep.{soa_places_of, filter_kept, no_alias_at}

-- a record that isn't of an owner and a type that it has
other_type : (a : Bool) (t u : ℕ) → (t == u) ≡ false → not (a && t == u) ≡ true
other_type true t u e = rw e refl
other_type false t u e = refl

module _ (zone : List Record) (r : RawRecord) (h : KeepsRules zone) (sent : IsSent r) (ok : IsPassed (apex_of zone) r) where
  abbrev own : Name
  own = apex_of zone

  abbrev e : Record
  e = entered r

  away : (s : Record) → (r.rtype == type_CNAME) ≡ false → is_of r.owner type_CNAME s ≡ false → r.rtype == type_CNAME || s.rtype == type_CNAME ≡ true → stands_at (fold_name r.owner) s ≡ false
  away s other none is =
      let alias : (s.rtype == type_CNAME) ≡ true = rw other at is in
      stands_lower r.owner s ∙ left_fails (stands_at r.owner s) (s.rtype == type_CNAME) none alias

  fits_by : (zs : List Record) → All (λ s. is_of r.owner r.rtype s ≡ true → s.ttl ≡ ttl_in_zone r.ttl) zs → All (λ s. r.rtype == type_CNAME || s.rtype == type_CNAME ≡ true → stands_at (fold_name r.owner) s ≡ false) zs → FitsBeside own zs e
  fits_by zs ttls apart = record {
    lawful = (entered_lawful r sent ok.form).lawful;
    one_ttl = All-weaker (λ s. is_of r.owner r.rtype s ≡ true → s.ttl ≡ ttl_in_zone r.ttl) (λ s. is_of (fold_name r.owner) r.rtype s ≡ true → s.ttl ≡ ttl_in_zone r.ttl) (λ s k is. k (sym (of_lower r.owner r.rtype s) ∙ is)) zs ttls;
    under_apex = under_lower r.owner own ok.under_apex;
    apart = apart;
    no_wild_cut = ap (λ b. b && r.rtype == type_NS) (wild_lower r.owner) ∙ ok.no_wild_cut;
  }

  -- a record that is added
  module _ (is : IsAdded zone r) where
    abbrev ttl : ℕ
    ttl = ttl_in_zone r.ttl

    abbrev set_to : Record → Record
    set_to = record_with_ttl r.owner r.rtype ttl

    ttl_is : (s : Record) → is_of r.owner r.rtype (set_to s) ≡ true → (set_to s).ttl ≡ ttl
    ttl_is s k =
        let was : is_of r.owner r.rtype s ≡ true = sym (of_stays set_to (ttl_owner r.owner r.rtype ttl) (ttl_rtype r.owner r.rtype ttl) r.owner r.rtype s) ∙ k in
        rw was refl

    no_alias_still : (s : Record) → is_of r.owner type_CNAME s ≡ false → is_of r.owner type_CNAME (set_to s) ≡ false
    no_alias_still s k = of_stays set_to (ttl_owner r.owner r.rtype ttl) (ttl_rtype r.owner r.rtype ttl) r.owner type_CNAME s ∙ k

    soas : soa_of (added_to zone r) ≡ map set_to (soa_of zone)
    soas =
        filter-with_one_not is_soa e (with_ttl zone r.owner r.rtype ttl) (both_fail (r.rtype == type_CNAME) (r.rtype == type_SOA) is.many).1 ∙
        filter-map set_to (ttl_owner r.owner r.rtype ttl) (ttl_rtype r.owner r.rtype ttl) is_soa (λ s. ap (λ t. t == type_SOA) (ttl_rtype r.owner r.rtype ttl s)) zone

    first_owner : (zs : List Record) → owner_of (map set_to zs) ≡ owner_of zs
    first_owner [] = refl
    first_owner (z ∷ zs) = ttl_owner r.owner r.rtype ttl z

    added_keeps : Keeps zone (added_to zone r)
    added_keeps =
        let zs = with_ttl zone r.owner r.rtype ttl in
        let other = (both_fail (r.rtype == type_CNAME) (r.rtype == type_SOA) is.many).0 in
        let none = All-map (λ s. is_of r.owner type_CNAME s ≡ false) set_to zone (All-weaker (λ s. is_of r.owner type_CNAME s ≡ false) (λ s. is_of r.owner type_CNAME (set_to s) ≡ false) no_alias_still zone (no_alias_at zone r.owner is.no_alias)) in
        let fits = fits_by zs (All-map (λ s. is_of r.owner r.rtype s ≡ true → s.ttl ≡ ttl) set_to zone (λ k d l. ttl_is (get_or zone k d)))
        (All-weaker (λ s. is_of r.owner type_CNAME s ≡ false) (λ s. r.rtype == type_CNAME || s.rtype == type_CNAME ≡ true → stands_at (fold_name r.owner) s ≡ false) (λ s k. away s other k) zs none) in
        let at : apex_of (added_to zone r) ≡ own = ap owner_of soas ∙ first_owner (soa_of zone) in
        record {
          rules = rules_from own (added_to zone r) (with_one_beside own zs e (ttl_beside r.owner r.rtype ttl own zone (beside_from zone h) (ttl_small r.ttl)) fits)
              (ap length soas ∙ length-map (soa_of zone) set_to ∙ h.one_soa) at;
          apex = at;
        }

  -- a record that takes the place of others
  module _ (is : IsPut zone r) where
    abbrev left : List Record
    left = without_rrset zone r.owner r.rtype

    abbrev stays : Record → Bool
    stays s = not (is_of r.owner r.rtype s)

    kinds_by : (a b : Bool) → (r.rtype == type_CNAME) ≡ a → (r.rtype == type_SOA) ≡ b → a || b ≡ true → (r.rtype ≡ type_CNAME) ⊎ (r.rtype ≡ type_SOA)
    kinds_by true b k m any = inl (eqb-true r.rtype type_CNAME k)
    kinds_by false true k m any = inr (eqb-true r.rtype type_SOA m)
    kinds_by false false k m any = cc

    kinds : (r.rtype ≡ type_CNAME) ⊎ (r.rtype ≡ type_SOA)
    kinds = kinds_by (r.rtype == type_CNAME) (r.rtype == type_SOA) refl refl is.one

    gone : All (λ s. is_of r.owner r.rtype s ≡ false) left
    gone = All-weaker (λ s. stays s ≡ true) (λ s. is_of r.owner r.rtype s ≡ false) (λ s k. is_not (is_of r.owner r.rtype s) k) left (filter_passes stays zone)

    -- the name servers stay
    not_ns : (t : ℕ) → t ≡ type_NS → (r.rtype ≡ type_CNAME) ⊎ (r.rtype ≡ type_SOA) → (t == r.rtype) ≡ false
    not_ns t k (inl m) = rw (k, m) refl
    not_ns t k (inr m) = rw (k, m) refl

    servers : 0 < length (rrset_of left own type_NS)
    servers =
        let same = filter_kept stays (is_of own type_NS) zone
        (λ k d l ns. let s = get_or zone k d in other_type (is_same s.owner r.owner) s.rtype r.rtype (not_ns s.rtype (eqb-true s.rtype type_NS (and_right (is_same s.owner own) (s.rtype == type_NS) ns)) kinds)) in
        let some = (beside_from zone h).name_servers in
        omega (arith, ap length same)

    -- nothing but the record is at an alias's owner
    alone_alias : (s : Record) → stands_at r.owner s && not (s.rtype == type_CNAME) ≡ false → is_of r.owner type_CNAME s ≡ false → stands_at r.owner s ≡ false
    alone_alias s = by (stands_at r.owner s) (s.rtype == type_CNAME)
      where
        by : (a b : Bool) → a && not b ≡ false → a && b ≡ false → a ≡ false
        by true true k m = m
        by true false k m = k
        by false b k m = refl

    apart : (r.rtype ≡ type_CNAME) ⊎ (r.rtype ≡ type_SOA) → All (λ s. r.rtype == type_CNAME || s.rtype == type_CNAME ≡ true → stands_at (fold_name r.owner) s ≡ false) left
    apart (inl alias) =
        let others = none_passes (λ s. stands_at r.owner s && not (s.rtype == type_CNAME)) zone (right_fails (r.rtype == type_CNAME) (has_other_than_alias zone r.owner) is.no_other (eq-eqb r.rtype type_CNAME alias)) in
        let rest = All-filter stays (λ s. stands_at r.owner s && not (s.rtype == type_CNAME) ≡ false) zone others in
        λ k d l _. let s = get_or left k d in stands_lower r.owner s ∙ alone_alias s (rest k d l) (subst (λ t. is_of r.owner t s ≡ false) alias (gone k d l))
    apart (inr soa) =
        let other : (r.rtype == type_CNAME) ≡ false = rw soa refl in
        let none = no_alias_at zone r.owner (right_fails (not (r.rtype == type_CNAME)) (has_rrset zone r.owner type_CNAME) is.no_alias (rw other refl)) in
        All-weaker (λ s. is_of r.owner type_CNAME s ≡ false) (λ s. r.rtype == type_CNAME || s.rtype == type_CNAME ≡ true → stands_at (fold_name r.owner) s ≡ false) (λ s k. away s other k) left (All-filter stays (λ s. is_of r.owner type_CNAME s ≡ false) zone none)

    put_beside : KeepsBeside own (put_in zone r)
    put_beside =
        with_one_beside own left e (filter_beside own stays zone (beside_from zone h) servers)
        (fits_by left (All-weaker (λ s. is_of r.owner r.rtype s ≡ false) (λ s. is_of r.owner r.rtype s ≡ true → s.ttl ≡ ttl_in_zone r.ttl) (λ s no yes. cc) left gone) (apart kinds))

    -- the SOA stays, or the record takes its place
    not_soa : (t : ℕ) → t ≡ type_SOA → r.rtype ≡ type_CNAME → (t == r.rtype) ≡ false
    not_soa t k m = rw (k, m) refl

    soa_stays : r.rtype ≡ type_CNAME → soa_of (put_in zone r) ≡ soa_of zone
    soa_stays alias =
        filter-with_one_not is_soa e left (rw alias refl) ∙
        filter_kept stays is_soa zone (λ k d l soa. let s = get_or zone k d in other_type (is_same s.owner r.owner) s.rtype r.rtype (not_soa s.rtype (eqb-true s.rtype type_SOA soa) alias))

    -- the SOA that stands at the owner
    lesser_at : r.rtype ≡ type_SOA → own ≡ fold_name r.owner
    lesser_at soa =
        let lesser : has_lesser_soa zone r ≡ true = is_so (has_lesser_soa zone r) (right_fails (r.rtype == type_SOA) (not (has_lesser_soa zone r)) is.lesser (eq-eqb r.rtype type_SOA soa)) in
        let place = place_from_any (λ s. is_of r.owner type_SOA s && serial_less (serial_of s.rdata) (serial_of (entered r).rdata)) zone (entered r) lesser in
        let s = get_or zone place.0 (entered r) in
        let of = and_left (is_of r.owner type_SOA s) (serial_less (serial_of s.rdata) (serial_of (entered r).rdata)) place.2 in
        let at = soa_places_of zone h place.0 (entered r) place.1 (and_right (is_same s.owner r.owner) (s.rtype == type_SOA) of) in
        let folded = (h.lawful place.0 (entered r) place.1).folded in
        sym at ∙ folded ∙ folds_from_same s.owner r.owner (and_left (is_same s.owner r.owner) (s.rtype == type_SOA) of)

    soa_goes : r.rtype ≡ type_SOA → (s : Record) → (is_soa s ≡ true → s.owner ≡ own) → is_of r.owner r.rtype s ≡ false → is_soa s ≡ false
    soa_goes soa s at out = by (is_soa s) refl
      where
        by : (b : Bool) → is_soa s ≡ b → b ≡ false
        by true k =
            let here : is_of (fold_name r.owner) r.rtype s ≡ true = rw (at k, lesser_at soa, soa, is_same_equiv.refl (fold_name r.owner), k) refl in
            let of = sym (of_lower r.owner r.rtype s) ∙ here in
            cc
        by false k = refl

    soa_is : r.rtype ≡ type_SOA → soa_of (put_in zone r) ≡ e ∷ []
    soa_is soa =
        let places = All-filter stays (λ s. is_soa s ≡ true → s.owner ≡ own) zone (soa_places_of zone h) in
        filter-with_one_alone is_soa e left (eq-eqb r.rtype type_SOA soa) (λ s tie. ap (λ t. t == type_SOA) (sym (tied e s tie).rtype)) (λ k d l. soa_goes soa (get_or left k d) (places k d l) (gone k d l))

    put_by : (r.rtype ≡ type_CNAME) ⊎ (r.rtype ≡ type_SOA) → Keeps zone (put_in zone r)
    put_by (inl alias) =
        let same = soa_stays alias in
        record { rules = rules_from own (put_in zone r) put_beside (ap length same ∙ h.one_soa) (ap owner_of same); apex = ap owner_of same }
    put_by (inr soa) =
        let one = soa_is soa in
        let at : apex_of (put_in zone r) ≡ own = ap owner_of one ∙ sym (lesser_at soa) in
        record { rules = rules_from own (put_in zone r) put_beside (ap length one) at; apex = at }

    put_keeps : Keeps zone (put_in zone r)
    put_keeps = put_by kinds

pub put_keeps_rules : (zone : List Record) (r : RawRecord) → KeepsRules zone → IsSent r → prescan_of zone r ≡ None → IsPut zone r → Keeps zone (put_in zone r)
put_keeps_rules zone r h sent scanned is = put_keeps zone r h sent (passed zone r scanned is.class) is

pub add_keeps_rules : (zone : List Record) (r : RawRecord) → KeepsRules zone → IsSent r → prescan_of zone r ≡ None → IsAdded zone r → Keeps zone (added_to zone r)
add_keeps_rules zone r h sent scanned is = added_keeps zone r h sent (passed zone r scanned is.class) is
