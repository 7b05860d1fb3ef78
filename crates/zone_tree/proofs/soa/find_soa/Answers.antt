-- The place of the first set of the type, and whether another record has it.
use Rattle.std.proofs.Common.{sym, ap, ◌∙◌, refl, arith, ◌≡◌, ◌<◌, List, length, get_or, [], inl, inr}
use Rattle.std.specs.Prelude.{◌==◌}
use Rattle.std.specs.List.{list_any}
use Rattle.std.proofs.lemmas.List.{take_rest, get_or_read}
use Rattle.dns_rdata.specs.Numbers.{type_SOA}
use Rattle.dns_rdata.specs.Record.{Record, rtype_of}
use Rattle.zone_tree.specs.declared.fault.BrokenRule.TheVariants.{NoSoa, SecondSoa}
use Rattle.zone_tree.specs.Fault.{IsFirstFault, NoneBefore}
use Rattle.zone_tree.specs.Sets.{records_in}
use Rattle.zone_tree.specs.Zone.{soa_of}
use Rattle.zone_tree.proofs.FaultLemmas.{one_more_rule}
use Rattle.zone_tree.proofs.CheckLemmas.{soa_none, soa_within, soa_one_set, soa_two_sets, soa_large}
use Rattle.zone_tree.proofs.soa.find_soa.Goals as goal

pub returns-in_default-clause-fault : goal.returns-in_default-clause-fault
returns-in_default-clause-fault c = (inl refl, record { broken = soa_none c.args.sets.now c.requires.rising c.in_default.ensures; first = c.requires.first })

-- two are more than none
second : (sets : List (List Record)) → NoneBefore NoSoa sets → 1 < length (soa_of (records_in sets)) → IsFirstFault SecondSoa sets
second sets first two = record { broken = two; first = one_more_rule NoSoa SecondSoa sets refl first (λ none. omega (arith, ap length none)) }

pub returns-then-has_soa-clause-fault : goal.returns-then-has_soa-clause-fault
returns-then-has_soa-clause-fault c = (
  inr refl,
  second c.args.sets.now c.requires.first (soa_two_sets c.args.sets.now c.requires.rising c.in-Some.at c.in-Some.ensures
      (sym (c.has_soa.ensures ∙ ap (list_any (λ set. rtype_of set == type_SOA)) (take_rest c.args.sets.now _)) ∙ c.if-has_soa.true)),
)

pub returns-then-len_of-gt1-clause-fault : goal.returns-then-len_of-gt1-clause-fault
returns-then-len_of-gt1-clause-fault c =
    let within = soa_within c.args.sets.now c.requires.rising c.in-Some.at c.in-Some.ensures in
    let set : c.index-sets-at.result ≡ get_or c.args.sets.now c.in-Some.at [] = get_or_read c.args.sets.now c.in-Some.at c.index-sets-at.result within c.index-sets-at.is [] in
    (inr refl, second c.args.sets.now c.requires.first (soa_large c.args.sets.now c.requires.rising c.in-Some.at c.in-Some.ensures (omega (arith, ap length set))))

pub returns-clause-found : goal.returns-clause-found
returns-clause-found c = record {
  within = soa_within c.args.sets.now c.requires.rising c.in-Some.at c.in-Some.ensures;
  is = soa_one_set c.args.sets.now c.requires.rising c.in-Some.at c.in-Some.ensures (sym (c.has_soa.ensures ∙ ap (list_any (λ set. rtype_of set == type_SOA)) (take_rest c.args.sets.now _)) ∙ c.if-has_soa.false);
}

pub returns-clause-one : goal.returns-clause-one
returns-clause-one c =
    let place = returns-clause-found c in
    let set : c.index-sets-at.result ≡ get_or c.args.sets.now c.in-Some.at [] = get_or_read c.args.sets.now c.in-Some.at c.index-sets-at.result place.within c.index-sets-at.is [] in
    omega (arith, ap length set, ap length (place.is []), c.len_of.ensures.lawful.some)
