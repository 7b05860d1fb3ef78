-- The owner's own sets from the type on, and those of the owners behind it.
use Rattle.std.proofs.Common.{◌++◌, ap, ◌∙◌, sym, subst, List}
use Rattle.std.specs.List.{filter, AllByRecursion}
use Rattle.std.specs.Ordering.{nat_cmp, is_le}
use Rattle.dns_rdata.specs.Record.{Record, owner_of, rtype_of}
use Rattle.zone_tree.specs.Sets.{records_in, sets_in}
use Rattle.zone_tree.specs.Filed.{sets_under, IsFiled}
use Rattle.zone_tree.specs.From.{records_from, DoTypesAscend}
use Rattle.zone_tree.proofs.Rising.{each_filter}
use Rattle.zone_tree.proofs.FromLemmas.{types_ascend, walked_sets, walked_records, walked_rest}
use Rattle.zone_tree.proofs.zone.Zone.walk_from.Goals as goal

pub sets_from-own-requires : goal.sets_from-own-requires
sets_from-own-requires c = subst DoTypesAscend (sym c.sets_of.ensures) (types_ascend c.self.inside.owners.pairs c.self.invariant.filed c.new-sought.result)

pub within-requires : goal.within-requires
within-requires c = subst (AllByRecursion IsFiled) (sym c.walk_above.ensures) (each_filter _ IsFiled c.self.inside.owners.pairs c.self.invariant.filed.each)

pub returns-clause-sets : goal.returns-clause-sets
returns-clause-sets c =
    let own = c.sets_from-own.ensures ∙ ap (filter (λ (set : List Record). is_le (nat_cmp c.args.rtype.0 (rtype_of set)))) c.sets_of.ensures in
    let whole = c.within.ensures ∙ (λ i. own i ++ sets_under (c.walk_above.ensures i)) in
    whole
    ∙ walked_sets c.new-sought.result c.args.owner.now c.args.rtype.0 c.new-sought.ensures.order c.self.inside.owners.pairs c.self.invariant.filed
    ∙ ap (λ zone. sets_in (records_from zone c.args.owner.now c.args.rtype.0)) c.self.view_is

pub returns-clause-records : goal.returns-clause-records
returns-clause-records c =
    let own = c.sets_from-own.ensures ∙ ap (filter (λ (set : List Record). is_le (nat_cmp c.args.rtype.0 (rtype_of set)))) c.sets_of.ensures in
    let whole = c.within.ensures ∙ (λ i. own i ++ sets_under (c.walk_above.ensures i)) in
    ap records_in whole
    ∙ walked_records c.new-sought.result c.args.owner.now c.args.rtype.0 c.new-sought.ensures.order c.self.inside.owners.pairs c.self.invariant.filed
    ∙ ap (λ zone. records_from zone c.args.owner.now c.args.rtype.0) c.self.view_is

pub returns-clause-rest : goal.returns-clause-rest
returns-clause-rest c front rest set is =
    let own = c.sets_from-own.ensures ∙ ap (filter (λ (s : List Record). is_le (nat_cmp c.args.rtype.0 (rtype_of s)))) c.sets_of.ensures in
    let whole = c.within.ensures ∙ (λ i. own i ++ sets_under (c.walk_above.ensures i)) in
    ap (λ zone. records_from zone (owner_of set) (rtype_of set)) (sym c.self.view_is)
    ∙ walked_rest c.new-sought.result c.args.owner.now c.args.rtype.0 c.new-sought.ensures.order c.self.inside.owners.pairs c.self.invariant.filed front rest set (sym whole ∙ is)
