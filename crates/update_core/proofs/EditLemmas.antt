-- What each row of an update makes of a zone is what changes of its sets make of it (RFC 2136, 3.4.2.2 to 3.4.2.4).
use Rattle.std.proofs.Common.{◌≡◌, ℕ, Bool, true, false, not, ◌==◌, cond, List, [], ◌∷◌, ◌++◌, map, filter, refl, sym, ap, ◌∙◌}
use Rattle.std.specs.List.{AllPairs, AllByRecursion}
use Rattle.std.specs.Ordering.{is_lt, is_gt, is_eq, nat_cmp}
use Rattle.std.specs.Cmp.Lexicographic.{slice_cmp}
use Rattle.std.proofs.lemmas.Bool.{eqb-true}
use Rattle.std.proofs.lemmas.List.{map-append}
use Rattle.dns_name.specs.Name.{is_same}
use Rattle.dns_rdata.specs.Record.{Record, with_record, owner_of, rtype_of}
use Rattle.dns_rdata.specs.Raw.{RawRecord, ttl_in_zone}
use Rattle.zone_tree.specs.Zone.{IsBefore, is_of, rrset_of}
use Rattle.zone_tree.specs.Change.{with_rrset, without_rrset}
use Rattle.zone_tree.proofs.Rising.{Rises, rises_from_pairs, each_weaker, filter_alike}
use Rattle.update_core.specs.Act.{entered, with_one, with_ttl, record_with_ttl}
use Rattle.update_core.proofs.ListLemmas.{and_left, and_right}
use Rattle.update_core.proofs.SentLemmas.{same_lower}
use Rattle.update_core.proofs.Candidates.{put_in, added_to}
use Rattle.update_core.proofs.ZoneParts.{lt_apart, gt_apart, place, of_place, before_part, behind_part, three_parts, left_parts, set_parts, with_one_parts, each_passes, own_beside}

-- a record with another TTL
abbrev pub at_ttl : ℕ → Record → Record
at_ttl ttl s = record s { ttl = ttl }

module _ (zone : List Record) (r : RawRecord) (ascending : AllPairs IsBefore zone) where
  rises : Rises IsBefore zone
  rises = rises_from_pairs IsBefore zone ascending

  abbrev front : List Record
  front = before_part r.owner r.rtype zone

  abbrev own : List Record
  own = rrset_of zone r.owner r.rtype

  abbrev back : List Record
  back = behind_part r.owner r.rtype zone

  -- where the records of the owner and type are gone
  gone : filter (λ s. not (is_of r.owner r.rtype s)) own ≡ []
  gone =
      filter_alike (λ s. not (is_of r.owner r.rtype s)) false own
      (each_weaker (λ s. is_of r.owner r.rtype s ≡ true) (λ s. not (is_of r.owner r.rtype s) ≡ false) (λ s e. ap not e) own (each_passes r.owner r.rtype (is_of r.owner r.rtype) zone))

  without_parts : without_rrset zone r.owner r.rtype ≡ front ++ ([] ++ back)
  without_parts = left_parts r.owner r.rtype (λ s. not (is_of r.owner r.rtype s)) (λ s e. ap not e) zone rises ∙ ap (λ l. front ++ (l ++ back)) gone

  -- a record put in their place is a set of one record
  pub put_edits : put_in zone r ≡ with_rrset zone (entered r ∷ [])
  put_edits =
      ap (with_one (entered r)) without_parts
      ∙ with_one_parts r.owner r.rtype (entered r) (same_lower r.owner) refl front [] back (each_passes r.owner r.rtype (λ s. is_lt (place r.owner r.rtype s)) zone) tt (each_passes r.owner r.rtype (λ s. is_gt (place r.owner r.rtype s)) zone)
      ∙ sym (set_parts r.owner r.rtype zone (entered r ∷ []) (same_lower r.owner) refl)

  -- a record that is added is one more in their set, which gets its TTL
  abbrev ttl : ℕ
  ttl = ttl_in_zone r.ttl

  abbrev set_to : Record → Record
  set_to = record_with_ttl r.owner r.rtype ttl

  ttl_apart : (b : Record → Bool) → ((s : Record) → b s ≡ true → is_of r.owner r.rtype s ≡ false) → (zs : List Record) → map set_to (filter b zs) ≡ filter b zs
  ttl_apart b apart [] = refl
  ttl_apart b apart (z ∷ zs) = by (b z) refl (ttl_apart b apart zs)
    where
      by : (c : Bool) → b z ≡ c → map set_to (filter b zs) ≡ filter b zs → map set_to (cond c (z ∷ filter b zs) (filter b zs)) ≡ cond c (z ∷ filter b zs) (filter b zs)
      by true e rest = rw (apart z e) (ap (λ l. z ∷ l) rest)
      by false e rest = rest

  ttl_own : (zs : List Record) → AllByRecursion (λ s. is_of r.owner r.rtype s ≡ true) zs → map set_to zs ≡ map (at_ttl ttl) zs
  ttl_own [] h = refl
  ttl_own (z ∷ zs) h = rw (h.0) (ap (λ l. at_ttl ttl z ∷ l) (ttl_own zs h.1))

  ttl_parts : with_ttl zone r.owner r.rtype ttl ≡ front ++ (map (at_ttl ttl) own ++ back)
  ttl_parts =
      ap (map set_to) (three_parts r.owner r.rtype zone rises)
      ∙ map-append set_to front (own ++ back)
      ∙ (λ i. ttl_apart (λ s. is_lt (place r.owner r.rtype s)) (λ s e. of_place r.owner r.rtype s ∙ lt_apart (place r.owner r.rtype s) e) zone i ++ (map-append set_to own back
      ∙ (λ j. ttl_own own (each_passes r.owner r.rtype (is_of r.owner r.rtype) zone) j ++ ttl_apart (λ s. is_gt (place r.owner r.rtype s)) (λ s e. of_place r.owner r.rtype s ∙ gt_apart (place r.owner r.rtype s) e) zone j)) i)

  -- its owner and type are theirs
  one_more_owner : (zs : List Record) → AllByRecursion (λ s. is_of r.owner r.rtype s ≡ true) zs → is_same (owner_of (with_record (entered r) (map (at_ttl ttl) zs))) r.owner ≡ true
  one_more_owner [] h = same_lower r.owner
  one_more_owner (z ∷ zs) h = by (is_lt (slice_cmp nat_cmp (entered r).rdata z.rdata)) (is_eq (slice_cmp nat_cmp (entered r).rdata z.rdata))
    where
      here : is_same z.owner r.owner ≡ true
      here = and_left (is_same z.owner r.owner) (z.rtype == r.rtype) h.0

      by : (b c : Bool) → is_same (owner_of (cond b (entered r ∷ map (at_ttl ttl) (z ∷ zs)) (cond c (map (at_ttl ttl) (z ∷ zs)) (at_ttl ttl z ∷ with_record (entered r) (map (at_ttl ttl) zs))))) r.owner ≡ true
      by true c = same_lower r.owner
      by false true = here
      by false false = here

  one_more_type : (zs : List Record) → AllByRecursion (λ s. is_of r.owner r.rtype s ≡ true) zs → rtype_of (with_record (entered r) (map (at_ttl ttl) zs)) ≡ r.rtype
  one_more_type [] h = refl
  one_more_type (z ∷ zs) h = by (is_lt (slice_cmp nat_cmp (entered r).rdata z.rdata)) (is_eq (slice_cmp nat_cmp (entered r).rdata z.rdata))
    where
      here : z.rtype ≡ r.rtype
      here = eqb-true z.rtype r.rtype (and_right (is_same z.owner r.owner) (z.rtype == r.rtype) h.0)

      by : (b c : Bool) → rtype_of (cond b (entered r ∷ map (at_ttl ttl) (z ∷ zs)) (cond c (map (at_ttl ttl) (z ∷ zs)) (at_ttl ttl z ∷ with_record (entered r) (map (at_ttl ttl) zs)))) ≡ r.rtype
      by true c = refl
      by false true = here
      by false false = here

  still_beside : (zs : List Record) → AllByRecursion (λ s. is_eq (place r.owner r.rtype s) ≡ true) zs → AllByRecursion (λ s. is_eq (place r.owner r.rtype s) ≡ true) (map (at_ttl ttl) zs)
  still_beside [] h = tt
  still_beside (z ∷ zs) h = (h.0, still_beside zs h.1)

  pub add_edits : added_to zone r ≡ with_rrset zone (with_record (entered r) (map (at_ttl ttl) own))
  add_edits =
      let each = each_passes r.owner r.rtype (is_of r.owner r.rtype) zone in
      ap (with_one (entered r)) ttl_parts
      ∙ with_one_parts r.owner r.rtype (entered r) (same_lower r.owner) refl front (map (at_ttl ttl) own) back (each_passes r.owner r.rtype (λ s. is_lt (place r.owner r.rtype s)) zone) (still_beside own (own_beside r.owner r.rtype zone)) (each_passes r.owner r.rtype (λ s. is_gt (place r.owner r.rtype s)) zone)
      ∙ sym (set_parts r.owner r.rtype zone (with_record (entered r) (map (at_ttl ttl) own)) (one_more_owner own each) (one_more_type own each))
