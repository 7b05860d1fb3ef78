-- An update that is taken makes a zone of the same apex of a zone (RFC 2136, 3).
use Rattle.std.proofs.Common.{◌≡◌, ℕ, ◌-◌, ◌≤◌, Bool, true, false, ◌==◌, cond, if◌then◌else◌, List, [], ◌∷◌, ◌++◌, length, take, drop, All, Option, None, Some, unwrap_or, refl, ◌∙◌, arith, length-append}
use Rattle.std.specs.Int.{to_be_bytes, w32}
use Rattle.std.specs.Option.{IfSome, option_map}
use Rattle.std.specs.Cmp.Lexicographic.{pointwise}
use Rattle.std.proofs.lemmas.List.{length-map, length-drop, length-take}
use Rattle.dns_rdata.specs.Numbers.{type_SOA}
use Rattle.dns_rdata.specs.Data.{with_serial}
use Rattle.dns_rdata.specs.Record.{Record}
use Rattle.dns_rdata.specs.SerialOrder.{serial_less, serial_next}
use Rattle.dns_message.specs.declared.update.Update.{Update}
use Rattle.zone_tree.specs.Zone.{IsZone, apex_of}
use Rattle.zone_tree.specs.Change.{is_same_record}
use Rattle.zone_tree.specs.Version.{zone_serial}
use Rattle.update_core.specs.Verdict.{check, permission, prescan, verdict}
use Rattle.update_core.specs.Act.{record_at_serial, at_serial, completed, effects, act, replay, IsSent, AreTaken}
use Rattle.update_core.proofs.ListLemmas.{by_test}
use Rattle.update_core.proofs.SerialPut.{serial_owner, serial_rtype, serial_keeps}
use Rattle.update_core.proofs.LimitsKept.{small_from, limits_from, map_small}
use Rattle.update_core.proofs.SentLemmas.{no_first}
use Rattle.update_core.proofs.EffectKeeps.{IsNext, next_from, what_gives, effects_keep}

-- an SOA's data with another serial are short where it is
serial_length : (n : ℕ) (octets : List ℕ) → length octets ≤ 4096 → length (with_serial n octets) ≤ 4096
serial_length n octets few =
    let front = take (length octets - 20) octets in
    let number = to_be_bytes w32 n in
    let tail = drop (length octets - 16) octets in
    omega (arith, length-append (front ++ number) tail, length-append front number, length-take (length octets - 20) octets, length-drop (length octets - 16) octets)

short_at : (n : ℕ) (octets : List ℕ) (b : Bool) (s : Record) → length s.rdata ≤ 4096 → length (cond b (record s { rdata = with_serial n s.rdata }) s).rdata ≤ 4096
short_at n octets true s few = serial_length n s.rdata few
short_at n octets false s few = few

-- a zone with another serial is one
pub serial_zone : (n : ℕ) (zone : List Record) → IsZone zone → IsNext zone (at_serial n zone)
serial_zone n zone h =
    let as_many = length-map zone (record_at_serial n) in
    next_from zone (at_serial n zone) (serial_keeps n zone h.rules)
    (limits_from (at_serial n zone) (map_small (record_at_serial n) (serial_owner n) (serial_rtype n) (λ s few. short_at n [] (s.rtype == type_SOA) s few) zone (small_from zone h.limits)) (let few = h.limits.few in omega arith))

-- and so is what is completed of one
pub completed_next : (zone after : List Record) → IsZone zone → IsNext zone after → IsNext zone (completed zone after)
completed_next zone after h k =
    by_test (IsNext zone) (pointwise is_same_record zone after) zone (if serial_less (zone_serial zone) (zone_serial after) then after else at_serial (serial_next (zone_serial zone)) after) (λ _. record { is = h; apex = refl })
    (λ _. by_test (IsNext zone) (serial_less (zone_serial zone) (zone_serial after)) after (at_serial (serial_next (zone_serial zone)) after) (λ _. k)
    (λ _. let last = serial_zone (serial_next (zone_serial zone)) after k.is in record { is = last.is; apex = last.apex ∙ k.apex }))

completed_each : (zone : List Record) (o : Option (List Record)) → IsZone zone → IfSome o (IsNext zone) → IfSome (option_map (completed zone) o) (IsNext zone)
completed_each zone None h k = tt
completed_each zone (Some after) h k = completed_next zone after h k

-- an update of records that were read, to which no rule gives a code
pub act_gives : (zone : List Record) (update : Update) (may : Bool) → IsZone zone → All IsSent update.updates → verdict zone update may ≡ None → IfSome (act zone update) (IsNext zone)
act_gives zone update may h sent taken =
    let first = no_first (check zone update) _ taken in
    let last = no_first (permission may) (prescan zone update.updates) first.1 in
    completed_each zone (effects zone update.updates) h (effects_keep zone update.updates h sent last.1)

pub act_keeps : (zone next : List Record) (update : Update) (may : Bool) → IsZone zone → All IsSent update.updates → verdict zone update may ≡ None → act zone update ≡ Some next → IsNext zone next
act_keeps zone next update may h sent taken e = what_gives (act zone update) (IsNext zone) next (act_gives zone update may h sent taken) e

pub act_zone : (zone next : List Record) (update : Update) (may : Bool) → IsZone zone → All IsSent update.updates → verdict zone update may ≡ None → act zone update ≡ Some next → IsZone next
act_zone zone next update may h sent taken e = (act_keeps zone next update may h sent taken e).is

pub act_apex : (zone next : List Record) (update : Update) (may : Bool) → IsZone zone → All IsSent update.updates → verdict zone update may ≡ None → act zone update ≡ Some next → apex_of next ≡ apex_of zone
act_apex zone next update may h sent taken e = (act_keeps zone next update may h sent taken e).apex

-- and updates one after another
left_is : (zone : List Record) (o : Option (List Record)) → IsZone zone → IfSome o (IsNext zone) → IsZone (unwrap_or o zone)
left_is zone None h k = h
left_is zone (Some next) h k = k.is

pub replay_zone : (zone : List Record) (updates : List Update) → IsZone zone → AreTaken zone updates → IsZone (replay zone updates)
replay_zone zone [] h taken = h
replay_zone zone (update ∷ updates) h taken = replay_zone (unwrap_or (act zone update) zone) updates (left_is zone (act zone update) h (act_gives zone update true h taken.0 taken.1)) taken.2
