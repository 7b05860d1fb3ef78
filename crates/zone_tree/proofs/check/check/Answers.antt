-- Sets that keep all rules are a zone, and the first rule that others break is told.
use Rattle.std.proofs.Common.{◌≤◌, refl, ap, ◌∙◌, List, length, arith}
use Rattle.std.proofs.lemmas.Result.{err_from_is_err_and}
use Rattle.dns_rdata.specs.Record.{Record, owner_of}
use Rattle.zone_tree.specs.declared.fault.BrokenRule.TheVariants.{TooManyRecords, NotAscending, NoSoa, SecondSoa, Outside}
use Rattle.zone_tree.specs.Fault.{NoneBefore}
use Rattle.zone_tree.specs.Sets.{records_in, AreAscending}
use Rattle.zone_tree.proofs.FaultLemmas.{none_at_first, one_more_rule, no_zone}
use Rattle.zone_tree.proofs.RuleLemmas.{zone_from_rules}
use Rattle.zone_tree.proofs.check.check.Goals as goal

pub check_order-requires-clause-first : goal.check_order-requires-clause-first
check_order-requires-clause-first c =
    let sets = c.args.sets.now in
    one_more_rule TooManyRecords NotAscending sets refl (none_at_first sets) (λ many. omega (arith, c.in_ok-count.ensures.few))

ascending : (sets : List (List Record)) → length (records_in sets) ≤ 1000000 → AreAscending sets → NoneBefore NoSoa sets
ascending sets few rising =
    one_more_rule NotAscending NoSoa sets refl (one_more_rule TooManyRecords NotAscending sets refl (none_at_first sets) (λ many. omega arith)) (λ broken. broken rising.ascending)

pub find_soa-requires-clause-first : goal.find_soa-requires-clause-first
find_soa-requires-clause-first c = ascending c.args.sets.now c.in_ok-count.ensures.few c.in_ok-check_order.ensures.rising

pub check_rules-requires-clause-first : goal.check_rules-requires-clause-first
check_rules-requires-clause-first c =
    let sets = c.args.sets.now in
    let one = c.in_ok-soa.ensures.one in
    one_more_rule SecondSoa Outside sets refl
    (one_more_rule NoSoa SecondSoa sets refl (ascending sets c.in_ok-count.ensures.few c.in_ok-check_order.ensures.rising) (λ none. omega (arith, ap length none)))
    (λ two. omega arith)

pub returns-in_err-check_order-clause-refused : goal.returns-in_err-check_order-clause-refused
returns-in_err-check_order-clause-refused c =
    let p = err_from_is_err_and c.from_residual-in_err-check_order.result c.from_residual-in_err-check_order.ensures.1 in
    rw p.1 (no_zone c.in_err-check_order.field-0.0 c.args.sets.now c.in_ok-count.ensures.each c.in_err-check_order.ensures.fault.1.broken)

pub returns-in_err-soa-clause-refused : goal.returns-in_err-soa-clause-refused
returns-in_err-soa-clause-refused c =
    let p = err_from_is_err_and c.from_residual-in_err-soa.result c.from_residual-in_err-soa.ensures.1 in
    rw p.1 (no_zone c.in_err-soa.field-0.0 c.args.sets.now c.in_ok-count.ensures.each c.in_err-soa.ensures.fault.1.broken)

pub returns-in_err-check_rules-clause-refused : goal.returns-in_err-check_rules-clause-refused
returns-in_err-check_rules-clause-refused c =
    let p = err_from_is_err_and c.from_residual-in_err-check_rules.result c.from_residual-in_err-check_rules.ensures.1 in
    rw p.1 (no_zone c.in_err-check_rules.field-0.0 c.args.sets.now c.in_ok-count.ensures.each c.in_err-check_rules.ensures.fault.broken)

pub returns-clause-judged : goal.returns-clause-judged
returns-clause-judged c =
    let sets = c.args.sets.now in
    record {
      rising = c.in_ok-check_order.ensures.rising;
      apex = c.owner-apex.ensures.of ∙ ap owner_of (c.index-sets-soa.is ∙ c.in_ok-soa.ensures.found.is c.index-sets-soa.result);
      counted = c.in_ok-count.ensures.counted;
      lawful = zone_from_rules sets c.in_ok-check_order.ensures.rising c.in_ok-soa.ensures.one c.in_ok-count.ensures.few c.in_ok-check_rules.ensures.kept;
    }
