-- What records of a zone make of what is held, one after another.
use Rattle.std.proofs.Common.{◌≡◌, refl, ◌∙◌, Bool, true, false, ◌&&◌, ◌||◌, not, List, [], ◌∷◌, ◌++◌, map, filter, Ok}
use Rattle.std.specs.List.{AllByRecursion}
use Rattle.dns_name.specs.Name.{Name}
use Rattle.dns_rdata.specs.Record.{Record, IsLawful}
use Rattle.dns_rdata.specs.Raw.{RawRecord}
use Rattle.zone_tree.specs.Zone.{IsZone, IsBefore, apex_of}
use Rattle.zone_tree.specs.Change.{is_same_record}
use Rattle.zone_tree.proofs.Rising.{Rises}
use Rattle.transfer_core.specs.Lists.{as_sent}
use Rattle.transfer_core.specs.Take.{Stage, gathering, deleting, adding, Reading, held, step, steps_through, is_soa, joined}
use Rattle.transfer_core.proofs.RecordLemmas.{IsIn, each_in, not_same_behind}
use Rattle.transfer_core.proofs.InsertLemmas.{inserted_kept, joined_kept, not_among_kept, among_kept, removed_kept}
use Rattle.transfer_core.proofs.ZoneLemmas.{entered_sent, rises, each_lawful, held_within}

-- how far a holder has read
abbrev pub at : Stage → List Record → Reading
at stage records = record { stage = stage; records = records }

-- a record that is taken
pub goes : (apex : Name) (first : Record) (stage : Stage) (records : List Record) (r : Record) (next : Reading) (list : List RawRecord) → IsLawful r → step apex first stage records r ≡ Ok next
    → steps_through apex first (at stage records) (as_sent r ∷ list) ≡ steps_through apex first next list
goes apex first stage records r next list h e = rw (entered_sent r h, steps_through, e) refl

-- a test that passes for more: those that were read
abbrev pub with_read : (Record → Bool) → List Record → Record → Bool
with_read p [] = p
with_read p (r ∷ rs) = with_read (λ z. p z || is_same_record r z) rs

-- and one that passes for less
abbrev pub without_read : (Record → Bool) → List Record → Record → Bool
without_read p [] = p
without_read p (r ∷ rs) = without_read (λ z. p z && not (is_same_record r z)) rs

-- records of a zone that aren't SOAs, by a test of which one tells them
pub record AreOf (zone : List Record) (p : Record → Bool) (b : Bool) (rs : List Record) : Type 0 where
  pub inside : AllByRecursion (λ r. IsIn r zone) rs
  pub plain : AllByRecursion (λ r. is_soa r ≡ false) rs
  pub reported : AllByRecursion (λ r. p r ≡ b) rs
  pub rising : Rises IsBefore rs

module _ (zone : List Record) (is : IsZone zone) (first : Record) where
  lawful : (r : Record) → IsIn r zone → IsLawful r
  lawful r k = each_in IsLawful zone r (each_lawful zone is) k

  told_on : (p : Record → Bool) (r : Record) (rs : List Record) → AllByRecursion (IsBefore r) rs → AllByRecursion (λ s. p s ≡ false) rs → AllByRecursion (λ s. (p s || is_same_record r s) ≡ false) rs
  told_on p r [] h k = tt
  told_on p r (s ∷ rs) h k = (rw k.0 (not_same_behind r s h.0), told_on p r rs h.1 k.1)

  told_off : (p : Record → Bool) (r : Record) (rs : List Record) → AllByRecursion (IsBefore r) rs → AllByRecursion (λ s. p s ≡ true) rs → AllByRecursion (λ s. (p s && not (is_same_record r s)) ≡ true) rs
  told_off p r [] h k = tt
  told_off p r (s ∷ rs) h k = (rw (k.0, not_same_behind r s h.0) refl, told_off p r rs h.1 k.1)

  rest_on : (p : Record → Bool) (r : Record) (rs : List Record) → AreOf zone p false (r ∷ rs) → AreOf zone (λ z. p z || is_same_record r z) false rs
  rest_on p r rs h = record { inside = h.inside.1; plain = h.plain.1; reported = told_on p r rs h.rising.0 h.reported.1; rising = h.rising.1 }

  rest_off : (p : Record → Bool) (r : Record) (rs : List Record) → AreOf zone p true (r ∷ rs) → AreOf zone (λ z. p z && not (is_same_record r z)) true rs
  rest_off p r rs h = record { inside = h.inside.1; plain = h.plain.1; reported = told_off p r rs h.rising.0 h.reported.1; rising = h.rising.1 }

  -- one record of a full list, an addition, a deletion
  pub gathers : (p : Record → Bool) (r : Record) → IsIn r zone → is_soa r ≡ false → p r ≡ false
      → held (apex_of zone) gathering r (joined r (filter p zone)) ≡ Ok (at gathering (filter (λ z. p z || is_same_record r z) zone))
  gathers p r k plain not_yet = rw (joined_kept p zone r (rises zone is) k not_yet) (held_within zone is gathering (λ z. p z || is_same_record r z) r k)

  step_gathers : (p : Record → Bool) (r : Record) → IsIn r zone → is_soa r ≡ false → p r ≡ false → step (apex_of zone) first gathering (filter p zone) r ≡ Ok (at gathering (filter (λ z. p z || is_same_record r z) zone))
  step_gathers p r k plain not_yet = rw plain (gathers p r k plain not_yet)

  step_adds : (p : Record → Bool) (r : Record) → IsIn r zone → is_soa r ≡ false → p r ≡ false → step (apex_of zone) first adding (filter p zone) r ≡ Ok (at adding (filter (λ z. p z || is_same_record r z) zone))
  step_adds p r k plain not_yet =
      rw (plain, not_among_kept p zone r (rises zone is) k not_yet, inserted_kept p zone r (rises zone is) k not_yet)
      (held_within zone is adding (λ z. p z || is_same_record r z) r k)

  step_deletes : (p : Record → Bool) (r : Record) → IsIn r zone → is_soa r ≡ false → p r ≡ true → step (apex_of zone) first deleting (filter p zone) r ≡ Ok (at deleting (filter (λ z. p z && not (is_same_record r z)) zone))
  step_deletes p r k plain there =
      rw (plain, among_kept p zone r k there, removed_kept p zone r)
      (held_within zone is deleting (λ z. p z && not (is_same_record r z)) r k)

  -- and all of them
  pub run_gathers : (p : Record → Bool) (rs more : List Record) → AreOf zone p false rs
      → steps_through (apex_of zone) first (at gathering (filter p zone)) (map as_sent (rs ++ more)) ≡ steps_through (apex_of zone) first (at gathering (filter (with_read p rs) zone)) (map as_sent more)
  run_gathers p [] more h = refl
  run_gathers p (r ∷ rs) more h =
      goes (apex_of zone) first gathering (filter p zone) r (at gathering (filter (λ z. p z || is_same_record r z) zone)) (map as_sent (rs ++ more)) (lawful r h.inside.0) (step_gathers p r h.inside.0 h.plain.0 h.reported.0)
      ∙ run_gathers (λ z. p z || is_same_record r z) rs more (rest_on p r rs h)

  pub run_adds : (p : Record → Bool) (rs more : List Record) → AreOf zone p false rs
      → steps_through (apex_of zone) first (at adding (filter p zone)) (map as_sent (rs ++ more)) ≡ steps_through (apex_of zone) first (at adding (filter (with_read p rs) zone)) (map as_sent more)
  run_adds p [] more h = refl
  run_adds p (r ∷ rs) more h =
      goes (apex_of zone) first adding (filter p zone) r (at adding (filter (λ z. p z || is_same_record r z) zone)) (map as_sent (rs ++ more)) (lawful r h.inside.0) (step_adds p r h.inside.0 h.plain.0 h.reported.0)
      ∙ run_adds (λ z. p z || is_same_record r z) rs more (rest_on p r rs h)

  pub run_deletes : (p : Record → Bool) (rs more : List Record) → AreOf zone p true rs
      → steps_through (apex_of zone) first (at deleting (filter p zone)) (map as_sent (rs ++ more)) ≡ steps_through (apex_of zone) first (at deleting (filter (without_read p rs) zone)) (map as_sent more)
  run_deletes p [] more h = refl
  run_deletes p (r ∷ rs) more h =
      goes (apex_of zone) first deleting (filter p zone) r (at deleting (filter (λ z. p z && not (is_same_record r z)) zone)) (map as_sent (rs ++ more)) (lawful r h.inside.0) (step_deletes p r h.inside.0 h.plain.0 h.reported.0)
      ∙ run_deletes (λ z. p z && not (is_same_record r z)) rs more (rest_off p r rs h)
