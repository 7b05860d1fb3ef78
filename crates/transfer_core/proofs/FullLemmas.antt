-- A full list of a zone gives that zone.
use Rattle.std.proofs.Common.{◌≡◌, ◌≢◌, refl, sym, ap, ◌∙◌, subst, Bool, true, false, ◌||◌, not, ◌==◌, List, [], ◌∷◌, ◌++◌, map, filter, Ok}
use Rattle.std.proofs.lemmas.List.Elements.{recursion_from_All}
use Rattle.dns_name.specs.Name.{is_under}
use Rattle.dns_rdata.specs.Numbers.{type_SOA}
use Rattle.dns_rdata.specs.Record.{Record, IsLawful}
use Rattle.dns_rdata.specs.Raw.{RawRecord}
use Rattle.zone_tree.specs.Zone.{IsZone, apex_of}
use Rattle.zone_tree.specs.Change.{is_same_record}
use Rattle.transfer_core.specs.Lists.{full, beside_soa, as_sent}
use Rattle.transfer_core.specs.Take.{opened, gathering, closed, held, step, steps_through, behind_first, take, is_soa, is_zone, joined}
use Rattle.transfer_core.proofs.RecordLemmas.{IsIn, each_in, each_from_in, is_not, same_itself, kept_in}
use Rattle.transfer_core.proofs.ZoneLemmas.{entered_sent, each_lawful, passes}
use Rattle.transfer_core.proofs.RunLemmas.{at, goes, AreOf, with_read, gathers, run_gathers}
use Rattle.transfer_core.proofs.ReadLemmas.{stays, is_read, all_kept, soa, soa_in, part, some_beside}

-- the first SOA of a list
pub opens : (zone : List Record) (s : Record) (list : List RawRecord) → IsLawful s → is_soa s ≡ true → take zone (as_sent s ∷ list) ≡ behind_first zone s list
opens zone s list h e = rw (entered_sent s h, take, e) refl

-- a list that is read to its close
pub read_whole : (zone : List Record) (s : Record) (sent : RawRecord) (list : List RawRecord) (records : List Record) → is_under s.owner (apex_of zone) ≡ true
    → steps_through (apex_of zone) s (at opened zone) (sent ∷ list) ≡ Ok (at closed records) → is_zone (apex_of zone) records ≡ true → behind_first zone s (sent ∷ list) ≡ Ok records
read_whole zone s sent list records under reads is = rw (under, reads, is) refl

pub under_apex : (zone : List Record) → IsZone zone → (r : Record) → IsIn r zone → is_under r.owner (apex_of zone) ≡ true
under_apex zone is r k = each_in (λ s. is_under s.owner (apex_of zone) ≡ true) zone r (recursion_from_All (λ s. is_under s.owner (apex_of zone) ≡ true) zone is.rules.under_apex) k

module _ (zone next : List Record) (is : IsZone next) (apexes : apex_of next ≡ apex_of zone) where
  abbrev s : Record
  s = (soa next is).0

  s_lawful : IsLawful s
  s_lawful = each_in IsLawful next s (each_lawful next is) (soa_in next is).0

  beside : AreOf next is_soa false (beside_soa next)
  beside = part next is (λ r. not (r.rtype == type_SOA)) is_soa false (λ r e. is_not (r.rtype == type_SOA) e) (λ r e. is_not (r.rtype == type_SOA) e)

  all_read : (rs : List Record) → beside_soa next ≡ rs → filter (with_read is_soa rs) next ≡ next
  all_read rs e = all_kept (with_read is_soa rs) next (each_from_in (λ x. with_read is_soa rs x ≡ true) next each)
    where
      by : (x : Record) → IsIn x next → (b : Bool) → is_soa x ≡ b → with_read is_soa rs x ≡ true
      by x k true m = stays is_soa rs x m
      by x k false m = is_read is_soa rs x (subst (IsIn x) e (kept_in (λ r. not (r.rtype == type_SOA)) next x k (rw m refl)))

      each : (x : Record) → IsIn x next → with_read is_soa rs x ≡ true
      each x k = by x k (is_soa x) refl

  -- the records behind the first SOA, and the closing one
  closes : (records : List Record) → steps_through (apex_of next) s (at gathering records) (as_sent s ∷ []) ≡ Ok (at closed records)
  closes records = goes (apex_of next) s gathering records s (at closed records) [] s_lawful (rw ((soa_in next is).1, same_itself s) refl)

  reads : (rs : List Record) → beside_soa next ≡ rs → rs ≢ [] → steps_through (apex_of next) s (at opened zone) (map as_sent (rs ++ s ∷ [])) ≡ Ok (at closed next)
  reads [] e some = absurd (some refl)
  reads (r ∷ rs) e some =
      let those = subst (AreOf next is_soa false) e beside in
      let first : step (apex_of next) s opened zone r ≡ Ok (at gathering (filter (λ z. is_soa z || is_same_record r z) next)) =
      rw (those.plain.0) (subst (λ head. held (apex_of next) gathering r (joined r head) ≡ Ok (at gathering (filter (λ z. is_soa z || is_same_record r z) next))) (soa next is).1 (gathers next is s is_soa r those.inside.0 those.plain.0 those.reported.0)) in
      let entry : step (apex_of next) s gathering (filter is_soa next) r ≡ Ok (at gathering (filter (λ z. is_soa z || is_same_record r z) next)) =
      rw (those.plain.0) (gathers next is s is_soa r those.inside.0 those.plain.0 those.reported.0) in
      let r_lawful = each_in IsLawful next r (each_lawful next is) those.inside.0 in
      goes (apex_of next) s opened zone r (at gathering (filter (λ z. is_soa z || is_same_record r z) next)) (map as_sent (rs ++ s ∷ [])) r_lawful first
      ∙ sym (goes (apex_of next) s gathering (filter is_soa next) r (at gathering (filter (λ z. is_soa z || is_same_record r z) next)) (map as_sent (rs ++ s ∷ [])) r_lawful entry)
      ∙ run_gathers next is s is_soa (r ∷ rs) (s ∷ []) those
      ∙ ap (λ records. steps_through (apex_of next) s (at gathering records) (as_sent s ∷ [])) (all_read (r ∷ rs) e)
      ∙ closes next

  whole : (rs : List Record) → beside_soa next ≡ rs → rs ≢ [] → behind_first zone s (map as_sent (rs ++ s ∷ [])) ≡ Ok next
  whole [] e some = absurd (some refl)
  whole (r ∷ rs) e some =
      read_whole zone s (as_sent r) (map as_sent (rs ++ s ∷ [])) next (subst (λ a. is_under s.owner a ≡ true) apexes (under_apex next is s (soa_in next is).0))
      (subst (λ a. steps_through a s (at opened zone) (map as_sent (r ∷ rs ++ s ∷ [])) ≡ Ok (at closed next)) apexes (reads (r ∷ rs) e some))
      (subst (λ a. is_zone a next ≡ true) apexes (passes next is))

  pub full_taken : take zone (map as_sent (full next)) ≡ Ok next
  full_taken =
      ap (λ l. take zone (map as_sent (l ++ beside_soa next ++ l))) (soa next is).1
      ∙ opens zone s (map as_sent (beside_soa next ++ s ∷ [])) s_lawful (soa_in next is).1
      ∙ whole (beside_soa next) refl (some_beside next is _ refl)
