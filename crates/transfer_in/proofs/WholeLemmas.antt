-- The octets of whole transfers are taken.
use Rattle.std.proofs.Common.{◌≡◌, ◌∙◌, refl, sym, ap, Bool, true, ◌&&◌, not, ◌==◌, eq-eqb, All, List, [], ◌∷◌, ◌++◌, map, filter, Option, Ok}
use Rattle.std.specs.List.{AllByRecursion, list_any}
use Rattle.std.proofs.lemmas.List.Elements.{All-nil, All-append, All-filter, recursion_from_All}
use Rattle.dns_name.specs.Name.{is_under}
use Rattle.dns_rdata.specs.Data.{serial_of}
use Rattle.dns_rdata.specs.Numbers.{type_SOA}
use Rattle.dns_rdata.specs.Record.{Record, IsLawful}
use Rattle.dns_message.specs.Asked.{IsQuestion}
use Rattle.dns_message.specs.declared.edns.Opt.{Opt}
use Rattle.dns_message.specs.declared.query.Head.{Head}
use Rattle.dns_message.specs.declared.query.Question.{Question}
use Rattle.zone_tree.specs.Zone.{IsZone, apex_of, soa_of}
use Rattle.zone_tree.specs.Change.{is_same_record, left_out}
use Rattle.zone_tree.specs.Version.{zone_serial}
use Rattle.transfer_core.specs.Lists.{as_sent, beside_soa, full, steps, newest, incremental, AreVersions}
use Rattle.transfer_core.specs.Packed.{packed, octets_of}
use Rattle.transfer_core.specs.Take.{take}
use Rattle.transfer_core.proofs.RecordLemmas.{each_in}
use Rattle.transfer_core.proofs.ZoneLemmas.{each_lawful}
use Rattle.transfer_core.proofs.ReadLemmas.{soa, soa_in}
use Rattle.transfer_core.proofs.FullLemmas.{opens, under_apex, full_taken}
use Rattle.transfer_core.proofs.StepLemmas.{soa_serial}
use Rattle.transfer_core.proofs.ChainLemmas.{incremental_taken}
use Rattle.transfer_in.specs.Sendable.{IsSendable}
use Rattle.transfer_in.specs.Taking.{records_of_messages}
use Rattle.transfer_in.proofs.PackedLemmas.{packed_received}

-- the records of a part of a zone can be sent
part : (zone : List Record) → IsZone zone → (p : Record → Bool) → All IsSendable (filter p zone)
part zone is p = All-filter p IsSendable zone (λ k d l. record { lawful = is.rules.lawful k d l; short = is.limits.short k d l })

soa_part : (zone : List Record) → IsZone zone → All IsSendable (soa_of zone)
soa_part zone is = part zone is (λ r. r.rtype == type_SOA)

left_part : (zone other : List Record) → IsZone zone → All IsSendable (left_out zone other)
left_part zone other is = part zone is (λ r. not (r.rtype == type_SOA) && not (list_any (is_same_record r) other))

-- and so can those of two lists
both : (front back : List Record) → All IsSendable front → All IsSendable back → All IsSendable (front ++ back)
both front back = All-append IsSendable front back

full_part : (zone : List Record) → IsZone zone → All IsSendable (full zone)
full_part zone is =
    let own = soa_part zone is in
    both (soa_of zone ++ beside_soa zone) (soa_of zone)
    (both (soa_of zone) (beside_soa zone) own (part zone is (λ r. not (r.rtype == type_SOA))))
    own

steps_part : (zone : List Record) (zones : List (List Record)) → IsZone zone → AllByRecursion IsZone zones → All IsSendable (steps zone zones)
steps_part zone [] is each = All-nil IsSendable
steps_part zone (next ∷ zones) is each =
    let deleted = soa_of zone ++ left_out zone next in
    let added = left_out next zone in
    both (deleted ++ soa_of next ++ added) (steps next zones)
    (both (deleted ++ soa_of next) added
    (both deleted (soa_of next)
    (both (soa_of zone) (left_out zone next) (soa_part zone is) (left_part zone next is))
    (soa_part next each.0))
    (left_part next zone each.0))
    (steps_part next zones each.0 each.1)

newest_is : (zone : List Record) (zones : List (List Record)) → IsZone zone → AllByRecursion IsZone zones → IsZone (newest zone zones)
newest_is zone [] is each = is
newest_is zone (next ∷ zones) is each = newest_is next zones each.0 each.1

incremental_part : (zone : List Record) (zones : List (List Record)) → AllByRecursion IsZone (zone ∷ zones) → All IsSendable (incremental zone zones)
incremental_part zone zones each =
    let last = soa_of (newest zone zones) in
    let own = soa_part (newest zone zones) (newest_is zone zones each.0 each.1) in
    both (last ++ steps zone zones) last (both last (steps zone zones) own (steps_part zone zones each.0 each.1)) own

pub full_transfer : (zone other : List Record) (head : Head) (question : Question) (opt : Option Opt) → IsQuestion question → IsZone other → apex_of other ≡ apex_of zone → take zone (records_of_messages (octets_of (packed head question opt (full other)))) ≡ Ok other
full_transfer zone other head question opt asked is apexes =
    ap (take zone) (packed_received head question opt (full other) asked (full_part other is))
    ∙ full_taken zone other is apexes

pub incremental_transfer : (zone next : List Record) (zones : List (List Record)) (head : Head) (question : Question) (opt : Option Opt) → IsQuestion question → AreVersions zone (next ∷ zones) → take zone (records_of_messages (octets_of (packed head question opt (incremental zone (next ∷ zones))))) ≡ Ok (newest next zones)
incremental_transfer zone next zones head question opt asked h =
    let list = incremental zone (next ∷ zones) in
    ap (take zone) (packed_received head question opt list asked (incremental_part zone (next ∷ zones) (recursion_from_All IsZone (zone ∷ next ∷ zones) h.each)))
    ∙ incremental_taken zone next zones h

-- an SOA alone leaves what is held
soa_alone : (zone : List Record) (is : IsZone zone) → take zone (map as_sent (soa_of zone)) ≡ Ok zone
soa_alone zone is =
    let s = (soa zone is).0 in
    let lawful : IsLawful s = each_in IsLawful zone s (each_lawful zone is) (soa_in zone is).0 in
    let serial : (serial_of s.rdata == zone_serial zone) ≡ true = eq-eqb _ _ (sym (soa_serial zone is)) in
    let under : is_under s.owner (apex_of zone) ≡ true = under_apex zone is s (soa_in zone is).0 in
    ap (λ l. take zone (map as_sent l)) (soa zone is).1
    ∙ opens zone s [] lawful (soa_in zone is).1
    ∙ rw (serial, under) refl

pub current_stays : (zone : List Record) (head : Head) (question : Question) (opt : Option Opt) → IsQuestion question → IsZone zone → take zone (records_of_messages (octets_of (packed head question opt (soa_of zone)))) ≡ Ok zone
current_stays zone head question opt asked is =
    ap (take zone) (packed_received head question opt (soa_of zone) asked (soa_part zone is))
    ∙ soa_alone zone is
