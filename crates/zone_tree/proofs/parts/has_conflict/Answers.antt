-- The tests of the sets are those of the records, one after the other.
use Rattle.std.proofs.Common.{◌≡◌, refl, arith, sym, ap, ◌∙◌, Bool, true, false, ◌&&◌, ◌||◌}
use Rattle.std.specs.Prelude.{◌==◌, not}
use Rattle.std.specs.List.{list_any}
use Rattle.dns_rdata.specs.Numbers.{type_NS}
use Rattle.zone_tree.specs.declared.fault.BrokenRule.TheVariants.{TooManyRecords, NotAscending}
use Rattle.zone_tree.specs.Zone.{is_alone, is_wild}
use Rattle.zone_tree.specs.Sets.{records_in}
use Rattle.zone_tree.proofs.FaultLemmas.{none_at_first, one_more_rule}
use Rattle.zone_tree.proofs.RuleLemmas.{aliases_by_sets, wild_by_sets}
use Rattle.zone_tree.proofs.parts.has_conflict.Goals as goal

pub check_order-requires-clause-first : goal.check_order-requires-clause-first
check_order-requires-clause-first c =
    let sets = c.args.sets.now in
    one_more_rule TooManyRecords NotAscending sets refl (none_at_first sets) (λ many. omega (arith, c.in_ok-check_count.ensures.few))

pub returns-then-has_crowded_alias-clause-conflict : goal.returns-then-has_crowded_alias-clause-conflict
returns-then-has_crowded_alias-clause-conflict c =
    let records = records_in c.args.sets.now in
    let some : list_any (λ r. not (is_alone records r)) records ≡ true = aliases_by_sets c.args.sets.now c.in_ok-check_order.ensures.rising ∙ sym c.has_crowded_alias.ensures ∙ c.if-has_crowded_alias.true in
    c.if-has_crowded_alias.true ∙ sym (ap (λ (b : Bool). b || list_any (λ r. is_wild r.owner && r.rtype == type_NS) records) some)

pub returns-else-has_crowded_alias-clause-conflict : goal.returns-else-has_crowded_alias-clause-conflict
returns-else-has_crowded_alias-clause-conflict c =
    let records = records_in c.args.sets.now in
    let none : list_any (λ r. not (is_alone records r)) records ≡ false = aliases_by_sets c.args.sets.now c.in_ok-check_order.ensures.rising ∙ sym c.has_crowded_alias.ensures ∙ c.if-has_crowded_alias.false in
    sym (ap (λ (b : Bool). b || list_any (λ r. is_wild r.owner && r.rtype == type_NS) records) none ∙ wild_by_sets c.args.sets.now c.in_ok-check_order.ensures.rising ∙ sym c.has_wild_cut.ensures)
