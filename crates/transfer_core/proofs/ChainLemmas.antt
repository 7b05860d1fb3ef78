-- An incremental list of zones gives the newest.
use Rattle.std.proofs.Common.{◌≡◌, ◌≢◌, refl, sym, ap, ◌∙◌, subst, Bool, true, false, List, [], ◌∷◌, ◌++◌, map, Result, Ok, Err, true≢false}
use Rattle.std.specs.List.{AllByRecursion}
use Rattle.std.proofs.lemmas.List.Elements.{recursion_from_All}
use Rattle.dns_name.specs.Name.{is_under}
use Rattle.dns_rdata.specs.Data.{serial_of}
use Rattle.dns_rdata.specs.Record.{Record, IsLawful}
use Rattle.dns_rdata.specs.Raw.{RawRecord}
use Rattle.zone_tree.specs.Zone.{IsZone, apex_of}
use Rattle.zone_tree.specs.Change.{is_same_record}
use Rattle.zone_tree.specs.Version.{zone_serial}
use Rattle.zone_tree.proofs.Rising.{Rises, rises_from_pairs, each_weaker}
use Rattle.transfer_core.specs.declared.fault.TransferFault.{TransferFault}
use Rattle.transfer_core.specs.Lists.{incremental, steps, newest, as_sent, AreVersions}
use Rattle.transfer_core.specs.Take.{Stage, opened, gathering, deleting, adding, closed, Reading, steps_through, behind_first, take, is_zone}
use Rattle.transfer_core.proofs.RecordLemmas.{each_in, same_itself, same_data, among_from_in}
use Rattle.transfer_core.proofs.ZoneLemmas.{each_lawful, passes}
use Rattle.transfer_core.proofs.RunLemmas.{at, goes}
use Rattle.transfer_core.proofs.ReadLemmas.{soa, soa_in}
use Rattle.transfer_core.proofs.FullLemmas.{opens, read_whole, under_apex}
use Rattle.transfer_core.proofs.StepLemmas.{soa_serial, step_opened, step_adding}

-- what holds of each zone holds of the newest
newest_each : (P : List Record → Type 0) (zone : List Record) (zones : List (List Record)) → P zone → AllByRecursion P zones → P (newest zone zones)
newest_each P zone [] h k = h
newest_each P zone (next ∷ zones) h k = newest_each P next zones k.0 k.1

abbrev Differ : List Record → List Record → Type 0
Differ older newer = zone_serial older ≢ zone_serial newer

-- an older zone's SOA isn't the newest's
not_newest : (first : Record) (zone : List Record) (is : IsZone zone) (newer : List Record) → zone_serial newer ≡ serial_of first.rdata → Differ zone newer → is_same_record first (soa zone is).0 ≡ false
not_newest first zone is newer serial other = by (is_same_record first (soa zone is).0) refl
  where
    by : (b : Bool) → is_same_record first (soa zone is).0 ≡ b → b ≡ false
    by false e = refl
    by true e = absurd (other (soa_serial zone is ∙ ap serial_of (sym (same_data first (soa zone is).0 e)) ∙ sym serial))

-- the steps from a zone
module _ (first : Record) where
  chain : (zone : List Record) (zones : List (List Record)) → IsZone zone → AllByRecursion IsZone zones → AllByRecursion (λ other. apex_of other ≡ apex_of zone) zones → Rises Differ (zone ∷ zones)
      → zone_serial (newest zone zones) ≡ serial_of first.rdata → (more : List Record)
      → steps_through (apex_of zone) first (at adding zone) (map as_sent (steps zone zones ++ more)) ≡ steps_through (apex_of zone) first (at adding (newest zone zones)) (map as_sent more)
  chain zone [] is each apex serials serial more = refl
  chain zone (next ∷ zones) is each apex serials serial more =
      step_adding first zone is next each.0 apex.0 (not_newest first zone is (newest next zones) serial (newest_each (Differ zone) next zones serials.0.0 serials.0.1)) (steps next zones) more
      ∙ subst (λ a. steps_through a first (at adding next) (map as_sent (steps next zones ++ more)) ≡ steps_through a first (at adding (newest next zones)) (map as_sent more)) apex.0
      (chain next zones each.0 each.1 (each_weaker (λ other. apex_of other ≡ apex_of zone) (λ other. apex_of other ≡ apex_of next) (λ other e. e ∙ sym apex.0) zones apex.1) serials.1 serial more)

-- where a list opens it isn't closed
opens_at : Stage → Bool
opens_at opened = true
opens_at gathering = false
opens_at deleting = false
opens_at adding = false
opens_at closed = false

is_open : Result Reading TransferFault → Bool
is_open (Ok reading) = opens_at reading.stage
is_open (Err fault) = false

abbrev given : Reading → Result Reading TransferFault
given reading = Ok reading

not_closed : (zone records : List Record) → given (at opened zone) ≡ given (at closed records) → ⊥
unfolding is_open opens_at
not_closed zone records e = true≢false (ap is_open e)

-- a list that is read to its close
read_list : (zone : List Record) (s : Record) (list : List RawRecord) (records : List Record) → is_under s.owner (apex_of zone) ≡ true
    → steps_through (apex_of zone) s (at opened zone) list ≡ Ok (at closed records) → is_zone (apex_of zone) records ≡ true → behind_first zone s list ≡ Ok records
read_list zone s [] records under reads is = absurd (not_closed zone records reads)
read_list zone s (sent ∷ list) records under reads is = read_whole zone s sent list records under reads is

module _ (zone next : List Record) (zones : List (List Record)) (h : AreVersions zone (next ∷ zones)) where
  abbrev last : List Record
  last = newest next zones

  each : AllByRecursion IsZone (zone ∷ next ∷ zones)
  each = recursion_from_All IsZone (zone ∷ next ∷ zones) h.each

  apex : AllByRecursion (λ other. apex_of other ≡ apex_of zone) (next ∷ zones)
  apex = recursion_from_All (λ other. apex_of other ≡ apex_of zone) (next ∷ zones) h.apex

  serials : Rises Differ (zone ∷ next ∷ zones)
  serials = rises_from_pairs Differ (zone ∷ next ∷ zones) h.serials

  last_is : IsZone last
  last_is = newest_each IsZone next zones each.1.0 each.1.1

  last_apex : apex_of last ≡ apex_of zone
  last_apex = newest_each (λ other. apex_of other ≡ apex_of zone) next zones apex.0 apex.1

  abbrev s : Record
  s = (soa last last_is).0

  s_lawful : IsLawful s
  s_lawful = each_in IsLawful last s (each_lawful last last_is) (soa_in last last_is).0

  closes : steps_through (apex_of zone) s (at adding last) (as_sent s ∷ []) ≡ Ok (at closed last)
  closes = goes (apex_of zone) s adding last s (at closed last) [] s_lawful (rw ((soa_in last last_is).1, same_itself s, among_from_in last s (soa_in last last_is).0) refl)

  reads : steps_through (apex_of zone) s (at opened zone) (map as_sent (steps zone (next ∷ zones) ++ s ∷ [])) ≡ Ok (at closed last)
  reads =
      step_opened s zone each.0 next each.1.0 apex.0 (not_newest s zone each.0 last (soa_serial last last_is) (newest_each (Differ zone) next zones serials.0.0 serials.0.1)) (steps next zones) (s ∷ [])
      ∙ subst (λ a. steps_through a s (at adding next) (map as_sent (steps next zones ++ s ∷ [])) ≡ steps_through a s (at adding last) (as_sent s ∷ [])) apex.0
      (chain s next zones each.1.0 each.1.1 (each_weaker (λ other. apex_of other ≡ apex_of zone) (λ other. apex_of other ≡ apex_of next) (λ other e. e ∙ sym apex.0) zones apex.1) serials.1 (soa_serial last last_is) (s ∷ []))
      ∙ closes

  pub incremental_taken : take zone (map as_sent (incremental zone (next ∷ zones))) ≡ Ok last
  incremental_taken =
      ap (λ l. take zone (map as_sent (l ++ steps zone (next ∷ zones) ++ l))) (soa last last_is).1
      ∙ opens zone s (map as_sent (steps zone (next ∷ zones) ++ s ∷ [])) s_lawful (soa_in last last_is).1
      ∙ read_list zone s (map as_sent (steps zone (next ∷ zones) ++ s ∷ [])) last (subst (λ a. is_under s.owner a ≡ true) last_apex (under_apex last last_is s (soa_in last last_is).0)) reads
      (subst (λ a. is_zone a last ≡ true) last_apex (passes last last_is))
