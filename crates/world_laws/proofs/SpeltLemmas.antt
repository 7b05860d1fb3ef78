-- Records whose owner keeps the spelling that was asked are taken as they are.
use Rattle.std.proofs.Common.{◌≡◌, refl, sym, ap, ◌∙◌, inl, inr, List, [], ◌∷◌, map, Option, Some, None}
use Rattle.std.specs.Prelude.{not, bytes_eq, if◌then◌else◌, Result, Ok, Err}
use Rattle.std.proofs.lemmas.Bool.{cases_Bool}
use Rattle.std.proofs.lemmas.Slice.Eq.{bytes_eq-Decides, slice_eq-Decides}
use Rattle.std.specs.Cmp.Lexicographic.{pointwise}
use Rattle.dns_name.specs.Name.{Name, fold_name, is_same}
use Rattle.dns_rdata.specs.Record.{Record}
use Rattle.dns_rdata.specs.Raw.{RawRecord, ttl_in_zone}
use Rattle.transfer_core.specs.declared.fault.TransferFault.{TransferFault}
use Rattle.transfer_core.specs.declared.fault.TransferFault.TheVariants.{Broken, NotInZone}
use Rattle.transfer_core.specs.Lists.{as_sent}
use Rattle.transfer_core.specs.Packed.{spelt}
use Rattle.dns_rdata.specs.Data.{data_of}
use Rattle.std.specs.Option.{option_map}
use Rattle.zone_tree.specs.Zone.{apex_of}
use Rattle.dns_name.specs.Name.{is_under}
use Rattle.transfer_core.specs.Take.Stage.{opened}
use Rattle.transfer_core.specs.Take.{Reading, ended, entered, is_soa, step, steps_through, behind_first, take as taken_by}

-- what enters a zone, under a name
abbrev entered_as : Name → Record → Option Record
entered_as owner r = option_map (λ octets. record { owner = owner; rtype = r.rtype; ttl = ttl_in_zone r.ttl; rdata = octets }) (data_of r.rtype r.rdata)

-- a record enters a zone in lower case
entered_spelt : (name : Name) (r : Record) → entered (as_sent (spelt name r)) ≡ entered (as_sent r)
entered_spelt name r =
    elim (cases_Bool (is_same r.owner name)) [
      | inl same ↦ (
          let e : fold_name r.owner ≡ fold_name name = (slice_eq-Decides bytes_eq-Decides (fold_name r.owner) (fold_name name) (pointwise bytes_eq (fold_name r.owner) (fold_name name)) refl).0 same in
          let s : spelt name r ≡ record r { owner = name } = rw same refl in
          ap (λ x. entered (as_sent x)) s ∙ folded (fold_name name) (fold_name r.owner) (sym e) r
          )
      | inr other ↦ (let s : spelt name r ≡ r = rw other refl in ap (λ x. entered (as_sent x)) s)
    ]
  where
    folded : (one two : Name) → one ≡ two → (r : Record) → entered_as one r ≡ entered_as two r
    folded one two e r = ap (λ n. entered_as n r) e

-- records that enter alike are read alike
abbrev Alike : List RawRecord → List RawRecord → Type 0
Alike [] [] = Unit {0}
Alike [] (s ∷ ss) = ⊥
Alike (r ∷ rs) [] = ⊥
Alike (r ∷ rs) (s ∷ ss) = (entered r ≡ entered s) × Alike rs ss

all_alike : (name : Name) (rs : List Record) → Alike (map as_sent (map (spelt name) rs)) (map as_sent rs)
all_alike name [] = tt
all_alike name (r ∷ rs) = (entered_spelt name r, all_alike name rs)

abbrev next_of : Name → Record → Reading → List RawRecord → Option Record → Result Reading TransferFault
next_of apex first reading list o =
    elim o [
      | None ↦ Err Broken
      | Some r ↦ elim (step apex first reading.stage reading.records r) [
        | Err fault ↦ Err fault
        | Ok next ↦ steps_through apex first next list
      ]
    ]

abbrev then_read : Name → Record → List RawRecord → Result Reading TransferFault → Result Reading TransferFault
then_read apex first list s = elim s [ Err fault ↦ Err fault | Ok next ↦ steps_through apex first next list ]

then_alike : (apex : Name) (first : Record) (one two : List RawRecord) (s : Result Reading TransferFault) → ((next : Reading) → steps_through apex first next one ≡ steps_through apex first next two) → then_read apex first one s ≡ then_read apex first two s
then_alike apex first one two (Err fault) same = refl
then_alike apex first one two (Ok next) same = same next

read_next : (apex : Name) (first : Record) (reading : Reading) (one two : List RawRecord) (o : Option Record) → ((next : Reading) → steps_through apex first next one ≡ steps_through apex first next two) → next_of apex first reading one o ≡ next_of apex first reading two o
read_next apex first reading one two None same = refl
read_next apex first reading one two (Some r) same = then_alike apex first one two (step apex first reading.stage reading.records r) same

read_alike : (apex : Name) (first : Record) (reading : Reading) (one two : List RawRecord) → Alike one two → steps_through apex first reading one ≡ steps_through apex first reading two
read_alike apex first reading [] [] a = refl
read_alike apex first reading [] (s ∷ ss) a = absurd a
read_alike apex first reading (r ∷ rs) [] a = absurd a
read_alike apex first reading (r ∷ rs) (s ∷ ss) a =
    ap (next_of apex first reading rs) a.0 ∙ read_next apex first reading rs ss (entered s) (λ next. read_alike apex first next rs ss a.1)

abbrev behind_read : List Record → Record → Result Reading TransferFault → Result (List Record) TransferFault
behind_read zone first read =
    if not (is_under first.owner (apex_of zone)) then Err NotInZone
    else elim read [ Err fault ↦ Err fault | Ok reading ↦ ended (apex_of zone) reading.stage reading.records ]

behind_alike : (zone : List Record) (first : Record) (one two : List RawRecord) → Alike one two → behind_first zone first one ≡ behind_first zone first two
behind_alike zone first [] [] a = refl
behind_alike zone first [] (s ∷ ss) a = absurd a
behind_alike zone first (r ∷ rs) [] a = absurd a
behind_alike zone first (r ∷ rs) (s ∷ ss) a = ap (behind_read zone first) (read_alike (apex_of zone) first (record { stage = opened; records = zone }) (r ∷ rs) (s ∷ ss) a)

abbrev first_of : List Record → List RawRecord → Option Record → Result (List Record) TransferFault
first_of zone list o = elim o [ None ↦ Err Broken | Some first ↦ if is_soa first then behind_first zone first list else Err Broken ]

first_by : (zone : List Record) (one two : List RawRecord) (o : Option Record) → Alike one two → first_of zone one o ≡ first_of zone two o
first_by zone one two None a = refl
first_by zone one two (Some first) a = ap (λ b. if is_soa first then b else Err Broken) (behind_alike zone first one two a)

taken_alike : (zone : List Record) (one two : List RawRecord) → Alike one two → taken_by zone one ≡ taken_by zone two
taken_alike zone [] [] a = refl
taken_alike zone [] (s ∷ ss) a = absurd a
taken_alike zone (r ∷ rs) [] a = absurd a
taken_alike zone (r ∷ rs) (s ∷ ss) a = ap (first_of zone rs) a.0 ∙ first_by zone rs ss (entered s) a.1

-- a list is taken in whatever spelling its owner was asked
pub taken_spelt : (zone : List Record) (name : Name) (list : List Record) → taken_by zone (map as_sent (map (spelt name) list)) ≡ taken_by zone (map as_sent list)
taken_spelt zone name list = taken_alike zone (map as_sent (map (spelt name) list)) (map as_sent list) (all_alike name list)
