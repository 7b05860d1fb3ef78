-- Which rule sets break that are no zone.
use Rattle.std.specs.Prelude.{◌≡◌, ℕ, ◌<◌, true, not, ◌&&◌, ◌==◌, List, [], length}
use Rattle.std.specs.List.{AllPairs, list_any}
use Rattle.zone_tree.specs.Limits.{max_records}
use Rattle.dns_name.specs.Name.{is_under}
use Rattle.dns_rdata.specs.Numbers.{type_NS}
use Rattle.dns_rdata.specs.Record.{Record}
use Rattle.zone_tree.specs.declared.fault.BrokenRule.{BrokenRule}
use Rattle.zone_tree.specs.declared.fault.NewFault.{NewFault}
use Rattle.zone_tree.specs.declared.fault.NewFault.TheVariants.{Broken, NoMemory}
use Rattle.zone_tree.specs.declared.fault.BrokenRule.TheVariants.{TooManyRecords, NotAscending, NoSoa, SecondSoa, Outside, NoNameServer, AliasNotAlone, WildCut}
use Rattle.zone_tree.specs.Zone.{soa_of, apex_of, rrset_of, is_alone, is_wild}
use Rattle.zone_tree.specs.Sets.{records_in, IsSetBefore}

-- the sets' records break the rule that the fault names
abbrev pub IsFault : BrokenRule → List (List Record) → Type 0
IsFault TooManyRecords sets = max_records < length (records_in sets)
IsFault NotAscending sets = AllPairs IsSetBefore sets → ⊥
IsFault NoSoa sets = soa_of (records_in sets) ≡ []
IsFault SecondSoa sets = 1 < length (soa_of (records_in sets))
IsFault Outside sets = list_any (λ r. not (is_under r.owner (apex_of (records_in sets)))) (records_in sets) ≡ true
IsFault NoNameServer sets = rrset_of (records_in sets) (apex_of (records_in sets)) type_NS ≡ []
IsFault AliasNotAlone sets = list_any (λ r. not (is_alone (records_in sets) r)) (records_in sets) ≡ true
IsFault WildCut sets = list_any (λ r. is_wild r.owner && r.rtype == type_NS) (records_in sets) ≡ true

-- the place of a rule among those of a zone, in the order in which they are told
abbrev pub place_of_rule : BrokenRule → ℕ
place_of_rule TooManyRecords = 1
place_of_rule NotAscending = 2
place_of_rule NoSoa = 3
place_of_rule SecondSoa = 4
place_of_rule Outside = 5
place_of_rule NoNameServer = 6
place_of_rule AliasNotAlone = 7
place_of_rule WildCut = 8

-- the sets break no rule that is told before the fault's
abbrev pub NoneBefore : BrokenRule → List (List Record) → Type 0
NoneBefore fault sets = (other : BrokenRule) → place_of_rule other < place_of_rule fault → IsFault other sets → ⊥

-- the first rule that the sets break is the fault's
pub record IsFirstFault (fault : BrokenRule) (sets : List (List Record)) : Type 0 where
  pub broken : IsFault fault sets
  pub first : NoneBefore fault sets

-- what holds of the rule that sets break, where it is no want of memory that is told
abbrev pub IfBroken : NewFault → (BrokenRule → Type 0) → Type 0
IfBroken (Broken rule) P = P rule
IfBroken NoMemory P = Unit {0}
