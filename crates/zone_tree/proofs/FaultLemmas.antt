-- Sets that break a rule are no zone, and the first rule that they break.
use Rattle.std.proofs.Common.{◌≡◌, ℕ, zero, suc, ◌+◌, ◌<◌, ◌≤◌, refl, ap, sym, ◌∙◌, subst, true, false, true≢false, Bool, nat_lt, ◌&&◌, List, length, get_or, arith}
use Rattle.std.specs.Prelude.{◌==◌, All}
use Rattle.std.specs.List.{AllPairs, AllAdjacentBelow}
use Rattle.std.specs.Ordering.{is_lt}
use Rattle.std.proofs.lemmas.Bool.Decides.{nat_tests}
use Rattle.dns_name.specs.Name.{is_under}
use Rattle.dns_rdata.specs.Numbers.{type_NS}
use Rattle.dns_rdata.specs.Record.{Record}
use Rattle.zone_tree.specs.declared.fault.BrokenRule.{BrokenRule}
use Rattle.zone_tree.specs.declared.fault.BrokenRule.TheVariants.{TooManyRecords, NotAscending, NoSoa, SecondSoa, Outside, NoNameServer, AliasNotAlone, WildCut}
use Rattle.zone_tree.specs.Fault.{IsFault, NoneBefore, place_of_rule}
use Rattle.zone_tree.specs.Zone.{IsZone, IsBefore, apex_of, is_alone, is_wild}
use Rattle.zone_tree.specs.Sets.{records_in, set_cmp, IsSetBefore, IsRRset, AreUnsplit}
use Rattle.zone_tree.proofs.CheckLemmas.{ascending_from_adjacent}
use Rattle.zone_tree.proofs.Rising.{rises_from_pairs}
use Rattle.zone_tree.proofs.RuleLemmas.{not_each, not_none}
use Rattle.zone_tree.proofs.ZoneLemmas.{unrisen_at}

by_test : (P : Type 0) (b : Bool) → (b ≡ true → P) → (b ≡ false → P) → P
by_test P true is isnt = is refl
by_test P false is isnt = isnt refl

-- sets of which no two have one owner and type ascend where their records do
pub sets_ascend : (sets : List (List Record)) → All IsRRset sets → AreUnsplit sets → AllPairs IsBefore (records_in sets) → AllPairs IsSetBefore sets
sets_ascend sets each unsplit rise =
    let adjacent : AllAdjacentBelow IsSetBefore sets (length sets) = λ k d within.
    by_test (IsSetBefore (get_or sets k d) (get_or sets (k + 1) d)) (is_lt (set_cmp (get_or sets k d) (get_or sets (k + 1) d))) (λ before. before)
    (λ not_before. absurd (unrisen_at sets k d within (each k d (omega arith)) (each (k + 1) d (omega arith)) (λ before. true≢false (sym before ∙ not_before)) unsplit (rises_from_pairs IsBefore (records_in sets) rise))) in
    (ascending_from_adjacent sets (length sets) each (omega arith) adjacent).ascending

pub too_many : (sets : List (List Record)) → IsFault TooManyRecords sets → AreUnsplit sets → IsZone (records_in sets) → ⊥
too_many sets h unsplit zone = omega (arith, zone.limits.few)

pub no_zone : (fault : BrokenRule) (sets : List (List Record)) → All IsRRset sets → IsFault fault sets → AreUnsplit sets → IsZone (records_in sets) → ⊥
no_zone TooManyRecords sets each h unsplit zone = too_many sets h unsplit zone
no_zone NotAscending sets each h unsplit zone = h (sets_ascend sets each unsplit zone.rules.ascending)
no_zone NoSoa sets each h unsplit zone = omega (arith, ap length h, zone.rules.one_soa)
no_zone SecondSoa sets each h unsplit zone = omega (arith, zone.rules.one_soa)
no_zone Outside sets each h unsplit zone = not_each (λ r. is_under r.owner (apex_of (records_in sets))) (records_in sets) h zone.rules.under_apex
no_zone NoNameServer sets each h unsplit zone = zone.rules.name_servers h
no_zone AliasNotAlone sets each h unsplit zone = not_each (is_alone (records_in sets)) (records_in sets) h zone.rules.aliases_alone
no_zone WildCut sets each h unsplit zone = not_none (λ r. is_wild r.owner && r.rtype == type_NS) (records_in sets) h zone.rules.no_wild_cuts

-- a rule by its place
rule_at : ℕ → BrokenRule
rule_at zero = WildCut
rule_at (suc zero) = TooManyRecords
rule_at (suc (suc zero)) = NotAscending
rule_at (suc (suc (suc zero))) = NoSoa
rule_at (suc (suc (suc (suc zero)))) = SecondSoa
rule_at (suc (suc (suc (suc (suc zero))))) = Outside
rule_at (suc (suc (suc (suc (suc (suc zero)))))) = NoNameServer
rule_at (suc (suc (suc (suc (suc (suc (suc zero))))))) = AliasNotAlone
rule_at (suc (suc (suc (suc (suc (suc (suc (suc n)))))))) = WildCut

at_place : (fault : BrokenRule) → rule_at (place_of_rule fault) ≡ fault
unfolding rule_at
at_place TooManyRecords = refl
at_place NotAscending = refl
at_place NoSoa = refl
at_place SecondSoa = refl
at_place Outside = refl
at_place NoNameServer = refl
at_place AliasNotAlone = refl
at_place WildCut = refl

same_place : (fault other : BrokenRule) → place_of_rule fault ≡ place_of_rule other → fault ≡ other
same_place fault other e = sym (at_place fault) ∙ ap rule_at e ∙ at_place other

some_place : (fault : BrokenRule) → 0 < place_of_rule fault
some_place TooManyRecords = omega arith
some_place NotAscending = omega arith
some_place NoSoa = omega arith
some_place SecondSoa = omega arith
some_place Outside = omega arith
some_place NoNameServer = omega arith
some_place AliasNotAlone = omega arith
some_place WildCut = omega arith

-- no rule is told before the first
pub none_at_first : (sets : List (List Record)) → NoneBefore TooManyRecords sets
none_at_first sets other before broken = omega (arith, some_place other)

-- one rule more holds
pub one_more_rule : (fault next : BrokenRule) (sets : List (List Record)) → place_of_rule next ≡ place_of_rule fault + 1 → NoneBefore fault sets → (IsFault fault sets → ⊥) → NoneBefore next sets
one_more_rule fault next sets e first holds other before broken =
    by_test ⊥ (nat_lt (place_of_rule other) (place_of_rule fault))
    (λ t. let earlier : place_of_rule other < place_of_rule fault = grind (arith, nat_tests) in first other earlier broken)
    (λ t. let later : place_of_rule fault ≤ place_of_rule other = grind (arith, nat_tests) in
    let same : place_of_rule other ≡ place_of_rule fault = omega arith in
    holds (subst (λ (f : BrokenRule). IsFault f sets) (same_place other fault same) broken))
