-- The tests of the sets are those of the records.
use Rattle.std.proofs.Common.{◌≡◌, ◌≢◌, sym, ◌∙◌, refl, false, true≢false, ◌&&◌, List, []}
use Rattle.std.specs.Prelude.{◌==◌, not}
use Rattle.std.specs.List.{list_any}
use Rattle.dns_name.specs.Name.{is_under}
use Rattle.dns_rdata.specs.Numbers.{type_NS}
use Rattle.dns_rdata.specs.Record.{Record}
use Rattle.zone_tree.specs.declared.fault.BrokenRule.TheVariants.{Outside, NoNameServer, AliasNotAlone, WildCut}
use Rattle.zone_tree.specs.Fault.{NoneBefore}
use Rattle.zone_tree.specs.Zone.{apex_of, rrset_of, is_alone, is_wild}
use Rattle.zone_tree.specs.Sets.{records_in}
use Rattle.zone_tree.proofs.FaultLemmas.{one_more_rule}
use Rattle.zone_tree.proofs.RuleLemmas.{outside_by_sets, no_servers, some_servers, aliases_by_sets, wild_by_sets, each_from_none, none_passes}
use Rattle.zone_tree.proofs.rules.check_rules.Goals as goal

pub returns-then-has_outside-clause-fault : goal.returns-then-has_outside-clause-fault
returns-then-has_outside-clause-fault c = record {
  broken = outside_by_sets c.args.sets.now c.requires.rising c.args.apex.now c.requires.apex ∙ sym c.if-has_outside.ensures;
  first = c.requires.first;
}

-- the rules that hold, one after another
within : (sets : List (List Record)) → NoneBefore Outside sets → list_any (λ r. not (is_under r.owner (apex_of (records_in sets)))) (records_in sets) ≡ false → NoneBefore NoNameServer sets
within sets first none = one_more_rule Outside NoNameServer sets refl first (λ broken. true≢false (sym broken ∙ none))

served : (sets : List (List Record)) → NoneBefore NoNameServer sets → rrset_of (records_in sets) (apex_of (records_in sets)) type_NS ≢ [] → NoneBefore AliasNotAlone sets
served sets first some = one_more_rule NoNameServer AliasNotAlone sets refl first some

alone : (sets : List (List Record)) → NoneBefore AliasNotAlone sets → list_any (λ r. not (is_alone (records_in sets) r)) (records_in sets) ≡ false → NoneBefore WildCut sets
alone sets first none = one_more_rule AliasNotAlone WildCut sets refl first (λ broken. true≢false (sym broken ∙ none))

pub returns-then-not-has_name_server-clause-fault : goal.returns-then-not-has_name_server-clause-fault
returns-then-not-has_name_server-clause-fault c =
    let sets = c.args.sets.now in
    record {
      broken = no_servers sets c.requires.rising c.args.apex.now c.requires.apex (sym c.if-not-has_name_server.ensures);
      first = within sets c.requires.first (outside_by_sets sets c.requires.rising c.args.apex.now c.requires.apex ∙ sym c.if-has_outside.ensures);
    }

pub returns-then-has_crowded_alias-clause-fault : goal.returns-then-has_crowded_alias-clause-fault
returns-then-has_crowded_alias-clause-fault c =
    let sets = c.args.sets.now in
    record {
      broken = aliases_by_sets sets c.requires.rising ∙ sym c.if-has_crowded_alias.ensures;
      first = served sets (within sets c.requires.first (outside_by_sets sets c.requires.rising c.args.apex.now c.requires.apex ∙ sym c.if-has_outside.ensures))
          (some_servers sets c.requires.rising c.args.apex.now c.requires.apex (sym c.if-not-has_name_server.ensures));
    }

pub returns-then-has_wild_cut-clause-fault : goal.returns-then-has_wild_cut-clause-fault
returns-then-has_wild_cut-clause-fault c =
    let sets = c.args.sets.now in
    record {
      broken = wild_by_sets sets c.requires.rising ∙ sym c.if-has_wild_cut.ensures;
      first = alone sets
          (served sets (within sets c.requires.first (outside_by_sets sets c.requires.rising c.args.apex.now c.requires.apex ∙ sym c.if-has_outside.ensures))
          (some_servers sets c.requires.rising c.args.apex.now c.requires.apex (sym c.if-not-has_name_server.ensures)))
          (aliases_by_sets sets c.requires.rising ∙ sym c.if-has_crowded_alias.ensures);
    }

pub returns-clause-kept : goal.returns-clause-kept
returns-clause-kept c =
    let sets = c.args.sets.now in
    record {
      under_apex = each_from_none (λ r. is_under r.owner (apex_of (records_in sets))) (records_in sets) (outside_by_sets sets c.requires.rising c.args.apex.now c.requires.apex ∙ sym c.if-has_outside.ensures);
      name_servers = some_servers sets c.requires.rising c.args.apex.now c.requires.apex (sym c.if-not-has_name_server.ensures);
      aliases_alone = each_from_none (is_alone (records_in sets)) (records_in sets) (aliases_by_sets sets c.requires.rising ∙ sym c.if-has_crowded_alias.ensures);
      no_wild_cuts = none_passes (λ r. is_wild r.owner && r.rtype == type_NS) (records_in sets) (wild_by_sets sets c.requires.rising ∙ sym c.if-has_wild_cut.ensures);
    }
