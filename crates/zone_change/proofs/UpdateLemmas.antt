-- The NS that two zones share, and the zone that one of them leaves.
use Rattle.std.proofs.Common.{◌≡◌, refl, sym, ap, ◌∙◌, subst, ℕ, Bool, true, ◌&&◌, ◌||◌, ◌==◌, List, [], ◌∷◌, ◌++◌, map, flat_map, length, get_or, arith, if◌then◌else◌, Option, None, Some, unwrap_or}
use Rattle.std.specs.Option.{IfSome, option_map}
use Rattle.std.specs.List.{list_any, AllByRecursion}
use Rattle.std.specs.Cmp.Lexicographic.{pointwise}
use Rattle.std.proofs.lemmas.List.{map-append}
use Rattle.std.proofs.lemmas.Map.Views.{any-filter_same}
use Rattle.dns_name.specs.Name.{Name, is_same}
use Rattle.dns_name.specs.Order.{is_same_equiv}
use Rattle.dns_rdata.specs.Numbers.{type_NS, class_IN}
use Rattle.dns_rdata.specs.Data.{Data}
use Rattle.dns_rdata.specs.Record.{Record, records_with}
use Rattle.dns_rdata.specs.Raw.{RawRecord}
use Rattle.dns_rdata.specs.SerialOrder.{serial_less, serial_next}
use Rattle.zone_tree.specs.Zone.{IsZone, is_of, apex_of}
use Rattle.zone_tree.specs.Change.{is_same_record}
use Rattle.zone_tree.specs.Patch.{is_among}
use Rattle.zone_tree.specs.Sets.{records_in}
use Rattle.zone_tree.specs.Version.{zone_serial}
use Rattle.update_core.specs.Act.{at_serial, completed}
use Rattle.update_core.proofs.ListLemmas.{by_test}
use Rattle.update_core.proofs.EffectKeeps.{IsNext}
use Rattle.zone_change.specs.Change.{as_sent, standing, servers_of, AreBeside}
use Rattle.zone_change.proofs.Lists.{both, same_owner, same_type, each_from, in_kept}
use Rattle.zone_change.proofs.Steps.{plain}
use Rattle.zone_change.proofs.Law.{pointwise_one}
use Rattle.zone_change.proofs.Serials.{out_of_serial, serial_left_out}

-- any of a list answers as another test does that agrees along it
any_same : (p q : Record → Bool) (zs : List Record) → AllByRecursion (λ z. p z ≡ q z) zs → list_any p zs ≡ list_any q zs
any_same p q [] h = refl
any_same p q (z ∷ zs) h = λ i. h.0 i || any_same p q zs h.1 i

-- an NS of an apex is among a zone's records where it is among those of its set
among_servers : (old : List Record) (r : Record) → is_of (apex_of old) type_NS r ≡ true → is_among (servers_of old) r ≡ is_among old r
among_servers old r is = any-filter_same (is_same_record r) (is_of (apex_of old) type_NS) true (λ s e. of_same s e) old
  where
    of_same : (s : Record) → is_same_record r s ≡ true → is_of (apex_of old) type_NS s ≡ true
    of_same s e =
        let parts = both (is_same r.owner (apex_of old)) (r.rtype == type_NS) is in
        let owner : is_same r.owner s.owner ≡ true = same_owner r s e in
        let here = sym (is_same_equiv.congr r.owner s.owner (apex_of old) owner) ∙ parts.0 in
        let typed = ap (λ t. t == type_NS) (sym (same_type r s e)) ∙ parts.1 in
        λ i. here i && typed i

pub shared_servers : (old next : List Record) → apex_of old ≡ apex_of next → list_any (is_among (servers_of old)) (servers_of next) ≡ list_any (is_among old) (servers_of next)
shared_servers old next apex =
    any_same (is_among (servers_of old)) (is_among old) (servers_of next)
    (each_from (λ r. is_among (servers_of old) r ≡ is_among old r) (servers_of next)
    (λ r m. among_servers old r (ap (λ o. is_of o type_NS r) apex ∙ (in_kept (is_of (apex_of next) type_NS) next r m).1)))

-- what is completed differs in nothing but the SOA
pub beside_itself : (zone : List Record) → AreBeside zone zone
beside_itself zone = λ other. (refl, refl)

pub completed_beside : (old mid : List Record) → IsZone old → IsZone mid → AreBeside (completed old mid) mid
completed_beside old mid h k =
    by_test (λ z. AreBeside z mid) (pointwise is_same_record old mid) old (if serial_less (zone_serial old) (zone_serial mid) then mid else at_serial (serial_next (zone_serial old)) mid)
    (λ e. subst (λ z. AreBeside z mid) (sym (pointwise_one old mid (plain old h).lawful (plain mid k).lawful e)) (beside_itself mid))
    (λ _. by_test (λ z. AreBeside z mid) (serial_less (zone_serial old) (zone_serial mid)) mid (at_serial (serial_next (zone_serial old)) mid)
    (λ _. beside_itself mid)
    (λ _. λ other. (serial_left_out (serial_next (zone_serial old)) mid other, out_of_serial (serial_next (zone_serial old)) other mid)))

-- of the effects of records, by what is made of them
pub beside_effects : (old z : List Record) (o : Option (List Record)) → IsZone old → IfSome o (IsNext old) → option_map (completed old) o ≡ Some z → AreBeside z (unwrap_or o old)
beside_effects old z None h k e = cc
beside_effects old z (Some mid) h k e =
    let same : z ≡ completed old mid = cc in
    subst (λ x. AreBeside x mid) (sym same) (completed_beside old mid h k.is)

pub no_effects : (old : List Record) (o : Option (List Record)) → option_map (completed old) o ≡ None → o ≡ None
no_effects old None e = refl
no_effects old (Some mid) e = cc

-- the condition of an update, of the SOA
pub one_standing : (set : List Record) (owner : Name) (rtype ttl : ℕ) (ds : List Data) (d : Data) → set ≡ records_with owner rtype ttl ds → length set ≡ 1 → d ≡ get_or ds 0 d
    → record { owner = owner; rtype = rtype; class = 1; ttl = 0; octets = d.octets } ∷ [] ≡ map standing set
one_standing set owner rtype ttl [] d is one first = absurd (omega (arith, ap length is, one))
one_standing set owner rtype ttl (e ∷ []) d is one first =
    (λ i. let own : RawRecord = record { owner = owner; rtype = rtype; class = 1; ttl = 0; octets = (first i).octets } in own ∷ []) ∙ sym (ap (map standing) is)
one_standing set owner rtype ttl (e ∷ f ∷ ds) d is one first = absurd (omega (arith, ap length is, one))

-- data as they are sent, of one owner, type, class and TTL
abbrev pub sent_all : Name → ℕ → ℕ → ℕ → List Data → List RawRecord
sent_all owner rtype class ttl [] = []
sent_all owner rtype class ttl (d ∷ ds) = record { owner = owner; rtype = rtype; class = class; ttl = ttl; octets = d.octets } ∷ sent_all owner rtype class ttl ds

-- the records of sets, as they are sent
pub map_sets : (f : Record → RawRecord) (sets : List (List Record)) → flat_map (map f) sets ≡ map f (records_in sets)
map_sets f [] = refl
map_sets f (set ∷ sets) = ap (λ l. map f set ++ l) (map_sets f sets) ∙ sym (map-append f set (records_in sets))

pub sent_records : (owner : Name) (rtype class ttl : ℕ) (ds : List Data) → sent_all owner rtype class (if class == class_IN then ttl else 0) ds ≡ map (as_sent class) (records_with owner rtype ttl ds)
sent_records owner rtype class ttl [] = refl
sent_records owner rtype class ttl (d ∷ ds) = ap (λ rest. record { owner = owner; rtype = rtype; class = class; ttl = if class == class_IN then ttl else 0; octets = d.octets } ∷ rest) (sent_records owner rtype class ttl ds)
