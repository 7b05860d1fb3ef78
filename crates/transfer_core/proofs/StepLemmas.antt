-- A step of an incremental list, from a zone to the next, and all of its steps.
use Rattle.std.proofs.Common.{◌≡◌, refl, sym, ap, ◌∙◌, subst, ℕ, Bool, true, false, ◌&&◌, ◌||◌, not, ◌==◌, List, ◌∷◌, ◌++◌, map, filter, Ok, append_assoc, arith, true≢false}
use Rattle.std.proofs.lemmas.Bool.Decides.{nat_tests}
use Rattle.dns_rdata.specs.Numbers.{type_SOA}
use Rattle.dns_rdata.specs.Data.{serial_of}
use Rattle.dns_rdata.specs.Record.{Record, IsLawful}
use Rattle.zone_tree.specs.Zone.{IsZone, apex_of, soa_of}
use Rattle.zone_tree.specs.Change.{is_same_record, left_out}
use Rattle.zone_tree.specs.Version.{zone_serial, first_data}
use Rattle.transfer_core.specs.Lists.{beside_soa, as_sent}
use Rattle.transfer_core.specs.Take.{opened, deleting, adding, old_soa, step, steps_through, is_soa, is_among}
use Rattle.transfer_core.proofs.RecordLemmas.{IsIn, each_in, each_from_in, same_itself, same_type, either_right, kept_in}
use Rattle.transfer_core.proofs.InsertLemmas.{inserted_kept}
use Rattle.transfer_core.proofs.ZoneLemmas.{each_lawful, held_within, rises}
use Rattle.transfer_core.proofs.RunLemmas.{at, goes, AreOf, with_read, run_adds, run_deletes}
use Rattle.transfer_core.proofs.ReadLemmas.{stays, is_read, all_kept, soa, soa_in, only_soa, left_part, common, remaining}

either_left : (a b : Bool) → a ≡ true → (a || b) ≡ true
either_left a b e = rw e refl

-- a zone's serial is that of its one SOA
pub soa_serial : (zone : List Record) (is : IsZone zone) → zone_serial zone ≡ serial_of (soa zone is).0.rdata
soa_serial zone is = ap (λ l. serial_of (first_data l)) (soa zone is).1

module _ (first : Record) (zone : List Record) (is : IsZone zone) where
  abbrev old : Record
  old = (soa zone is).0

  old_lawful : IsLawful old
  old_lawful = each_in IsLawful zone old (each_lawful zone is) (soa_in zone is).0

  equal : (m n : ℕ) → n ≡ m → (m == n) ≡ true
  equal m n e = grind (arith, nat_tests)

  -- the old SOA, which isn't the list's first
  old_goes : old_soa (apex_of zone) zone old ≡ Ok (at deleting (beside_soa zone))
  old_goes = rw (equal (serial_of old.rdata) (zone_serial zone) (soa_serial zone is)) (held_within zone is deleting (λ r. not (r.rtype == type_SOA)) old (soa_in zone is).0)

  old_opened : is_same_record first old ≡ false → step (apex_of zone) first opened zone old ≡ Ok (at deleting (beside_soa zone))
  old_opened other = rw ((soa_in zone is).1, other) old_goes

  old_adding : is_same_record first old ≡ false → step (apex_of zone) first adding zone old ≡ Ok (at deleting (beside_soa zone))
  old_adding other = rw ((soa_in zone is).1, other) old_goes

  module _ (next : List Record) (also : IsZone next) (apexes : apex_of next ≡ apex_of zone) where
    abbrev new : Record
    new = (soa next also).0

    new_lawful : IsLawful new
    new_lawful = each_in IsLawful next new (each_lawful next also) (soa_in next also).0

    abbrev those : Record → Bool
    those = common zone is next also

    abbrev with_soa : Record → Bool
    with_soa z = those z || is_same_record new z

    -- the next SOA
    new_goes : step (apex_of next) first deleting (filter those next) new ≡ Ok (at adding (filter with_soa next))
    new_goes =
        let not_yet : those new ≡ false = rw ((soa_in next also).1) refl in
        rw ((soa_in next also).1, inserted_kept those next new (rises next also) (soa_in next also).0 not_yet) (held_within next also adding with_soa new (soa_in next also).0)

    -- the additions
    additions : AreOf next with_soa false (left_out next zone)
    additions = left_part next also zone is with_soa false (λ r plain gone. outside r plain gone)
      where
        outside : (r : Record) → is_soa r ≡ false → is_among zone r ≡ false → with_soa r ≡ false
        outside r plain gone = by (is_same_record new r) refl
          where
            by : (b : Bool) → is_same_record new r ≡ b → with_soa r ≡ false
            by false e = rw (plain, gone, e) refl
            by true e = let wrong : is_soa r ≡ true = subst (λ t. (t == type_SOA) ≡ true) (same_type new r e) (soa_in next also).1 in absurd (true≢false (sym wrong ∙ plain))

    all_there : filter (with_read with_soa (left_out next zone)) next ≡ next
    all_there = all_kept (with_read with_soa (left_out next zone)) next (each_from_in (λ x. with_read with_soa (left_out next zone) x ≡ true) next each)
      where
        by : (x : Record) → IsIn x next → (b c : Bool) → is_soa x ≡ b → is_among zone x ≡ c → with_read with_soa (left_out next zone) x ≡ true
        by x k true c m n = stays with_soa (left_out next zone) x (either_right (those x) (is_same_record new x) (subst (λ s. is_same_record s x ≡ true) (only_soa next also x k m) (same_itself x)))
        by x k false true m n = stays with_soa (left_out next zone) x (either_left (those x) (is_same_record new x) (rw (m, n) refl))
        by x k false false m n = is_read with_soa (left_out next zone) x (kept_in (λ r. not (r.rtype == type_SOA) && not (is_among zone r)) next x k (rw (m, n) refl))

        each : (x : Record) → IsIn x next → with_read with_soa (left_out next zone) x ≡ true
        each x k = by x k (is_soa x) (is_among zone x) refl refl

    -- all behind the old SOA
    behind_old : (more : List Record) → steps_through (apex_of zone) first (at deleting (beside_soa zone)) (map as_sent (left_out zone next ++ (new ∷ (left_out next zone ++ more)))) ≡ steps_through (apex_of zone) first (at adding next) (map as_sent more)
    behind_old more =
        run_deletes zone is first (λ r. not (r.rtype == type_SOA)) (left_out zone next) (new ∷ (left_out next zone ++ more)) (left_part zone is next also (λ r. not (r.rtype == type_SOA)) true (λ r plain gone. rw plain refl))
        ∙ ap (λ records. steps_through (apex_of zone) first (at deleting records) (map as_sent (new ∷ (left_out next zone ++ more)))) (remaining zone is next also)
        ∙ subst (λ a. steps_through a first (at deleting (filter those next)) (map as_sent (new ∷ (left_out next zone ++ more))) ≡ steps_through a first (at adding next) (map as_sent more)) apexes
        (goes (apex_of next) first deleting (filter those next) new (at adding (filter with_soa next)) (map as_sent (left_out next zone ++ more)) new_lawful new_goes
        ∙ run_adds next also first with_soa (left_out next zone) more additions
        ∙ ap (λ records. steps_through (apex_of next) first (at adding records) (map as_sent more)) all_there)

    joined_lists : (a b c d e more : List Record) → ((((a ++ b) ++ c) ++ d) ++ e) ++ more ≡ a ++ (b ++ (c ++ (d ++ (e ++ more))))
    joined_lists a b c d e more =
        append_assoc (((a ++ b) ++ c) ++ d) e more
        ∙ append_assoc ((a ++ b) ++ c) d (e ++ more)
        ∙ append_assoc (a ++ b) c (d ++ (e ++ more))
        ∙ append_assoc a b (c ++ (d ++ (e ++ more)))

    abbrev pub step_list : List Record → List Record
    step_list rest = soa_of zone ++ left_out zone next ++ soa_of next ++ left_out next zone ++ rest

    -- a step by its records
    by_records : (rest more : List Record) → step_list rest ++ more ≡ old ∷ (left_out zone next ++ (new ∷ (left_out next zone ++ (rest ++ more))))
    by_records rest more =
        joined_lists (soa_of zone) (left_out zone next) (soa_of next) (left_out next zone) rest more
        ∙ (λ i. (soa zone is).1 i ++ (left_out zone next ++ ((soa next also).1 i ++ (left_out next zone ++ (rest ++ more)))))

    -- a step from where a list opens, and from behind another
    pub step_opened : is_same_record first old ≡ false → (rest more : List Record) → steps_through (apex_of zone) first (at opened zone) (map as_sent (step_list rest ++ more)) ≡ steps_through (apex_of zone) first (at adding next) (map as_sent (rest ++ more))
    step_opened other rest more =
        ap (λ l. steps_through (apex_of zone) first (at opened zone) (map as_sent l)) (by_records rest more)
        ∙ goes (apex_of zone) first opened zone old (at deleting (beside_soa zone)) (map as_sent (left_out zone next ++ (new ∷ (left_out next zone ++ (rest ++ more))))) old_lawful (old_opened other)
        ∙ behind_old (rest ++ more)

    pub step_adding : is_same_record first old ≡ false → (rest more : List Record) → steps_through (apex_of zone) first (at adding zone) (map as_sent (step_list rest ++ more)) ≡ steps_through (apex_of zone) first (at adding next) (map as_sent (rest ++ more))
    step_adding other rest more =
        ap (λ l. steps_through (apex_of zone) first (at adding zone) (map as_sent l)) (by_records rest more)
        ∙ goes (apex_of zone) first adding zone old (at deleting (beside_soa zone)) (map as_sent (left_out zone next ++ (new ∷ (left_out next zone ++ (rest ++ more))))) old_lawful (old_adding other)
        ∙ behind_old (rest ++ more)
