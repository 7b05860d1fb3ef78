-- Who may update a zone, and what of it, and who may transfer it (RFC 2136, 3.3; RFC 5936, 5).
use Rattle.std.specs.Prelude.{Bool, true, false, find, ◌&&◌, ◌||◌, ◌==◌, not, List, [], ◌∷◌, Option, Some, None, if◌then◌else◌}
use Rattle.std.specs.List.{list_any, list_all}
use Rattle.dns_name.specs.Name.{Name, is_same, is_under}
use Rattle.dns_rdata.specs.Numbers.{type_NS, type_SOA, type_ANY, type_AXFR, type_IXFR}
use Rattle.dns_rdata.specs.Raw.{RawRecord}
use Rattle.dns_rdata.specs.declared.numbers.RType.{RType}
use Rattle.dns_message.specs.declared.query.Query.{Query as Asked}
use Rattle.dns_message.specs.declared.query.Parsed.{Parsed}
use Rattle.dns_message.specs.declared.query.Parsed.TheVariants.{Silent, Fault, BadOpt, Query, Update, NoMemory}
use Rattle.dns_message.specs.declared.update.Update.{Update as DynamicUpdate}
use Rattle.rights.specs.Address.{has_prefix}
use Rattle.rights.specs.declared.requestor.Requestor.{Requestor}
use Rattle.rights.specs.declared.rule.NameScope.{NameScope}
use Rattle.rights.specs.declared.rule.NameScope.TheVariants.{Every, Exact, AtOrBelow}
use Rattle.rights.specs.declared.rule.UpdateRight.{UpdateRight}
use Rattle.rights.specs.declared.rule.Rule.{Rule}

-- whether a right holds at a name: at each one, at one alone, or at one and those below it
abbrev pub holds_at : NameScope → Name → Bool
holds_at Every owner = true
holds_at (Exact name) owner = is_same owner name
holds_at (AtOrBelow name) owner = is_under owner name

-- whether a record of an update takes a right of every type: one that deletes all sets of a name (RFC 2136, 2.5.3), and one of the
-- SOA or the NS set of the zone's apex
abbrev pub takes_every_type : Name → RawRecord → Bool
takes_every_type apex r = r.rtype == type_ANY || (is_same r.owner apex && (r.rtype == type_SOA || r.rtype == type_NS))

-- whether a right holds of a record's type: a right without types of each, another of its types
abbrev pub holds_of : List RType → Name → RawRecord → Bool
holds_of [] apex r = true
holds_of (t ∷ types) apex r = not (takes_every_type apex r) && list_any (λ own. own.0 == r.rtype) (t ∷ types)

-- whether a right's names are of the zone with this apex
abbrev pub is_scope_within : NameScope → Name → Bool
is_scope_within Every apex = true
is_scope_within (Exact name) apex = is_under name apex
is_scope_within (AtOrBelow name) apex = is_under name apex

-- the same of a right to update, where there is one
abbrev pub is_within : Option UpdateRight → Name → Bool
is_within None apex = true
is_within (Some right) apex = is_scope_within right.names apex

-- whether a right to update, where there is one, holds over the transport of who asks
abbrev pub is_held : Option UpdateRight → Requestor → Bool
is_held None who = false
is_held (Some right) who = who.is_tcp || not right.needs_tcp

-- whether a right to update, where there is one, is one to a record of the update section, by its owner and its type
abbrev pub is_right_to : Option UpdateRight → Name → RawRecord → Bool
is_right_to None apex r = false
is_right_to (Some right) apex r = holds_at right.names r.owner && holds_of right.types.items apex r

-- whether a rule gives who asks a right to update
abbrev pub lets_update : Requestor → Rule → Bool
lets_update who rule = has_prefix rule.prefix who.bits && is_held rule.update who

-- whether a rule gives who asks a right to this record
abbrev pub covers : Requestor → Name → RawRecord → Rule → Bool
covers who apex r rule = lets_update who rule && is_right_to rule.update apex r

-- records may be updated where a rule gives who asks a right to update, and each of them is covered by a rule
abbrev pub are_permitted : List Rule → Requestor → Name → List RawRecord → Bool
are_permitted rules who apex records = list_any (lets_update who) rules && list_all (λ r. list_any (covers who apex r) rules) records

-- the first record that no rule covers
abbrev pub first_uncovered : List Rule → Requestor → Name → List RawRecord → Option RawRecord
first_uncovered rules who apex records = find (λ r. not (list_any (covers who apex r) rules)) records

-- whether a rule gives who asks the right to transfer the zone
abbrev pub lets_transfer : Requestor → Rule → Bool
lets_transfer who rule = rule.transfer && has_prefix rule.prefix who.bits

-- the zone may be transferred where a rule gives who asks that right
abbrev pub may_transfer : List Rule → Requestor → Bool
may_transfer rules who = list_any (lets_transfer who) rules

-- an update is permitted where its records may be updated, of the zone that its zone section names (RFC 2136, 3.3). Its prerequisites take no right
abbrev pub is_permitted : List Rule → Requestor → DynamicUpdate → Bool
is_permitted rules who update = are_permitted rules who update.zone.name update.updates

-- whether a query asks for a transfer (RFC 5936, 2.1; RFC 1995, 3)
abbrev pub is_transfer : Asked → Bool
is_transfer query = query.question.rtype.0 == type_AXFR || query.question.rtype.0 == type_IXFR

-- whether a request is permitted: an update, a query for a transfer, or another query; none of what is neither
abbrev pub judged : List Rule → Requestor → Parsed → Option Bool
judged rules who (Update update) = Some (is_permitted rules who update)
judged rules who (Query query) = Some (if is_transfer query then may_transfer rules who else true)
judged rules who Silent = None
judged rules who (Fault head code) = None
judged rules who (BadOpt head question code dnssec_ok) = None
judged rules who (NoMemory head) = None
