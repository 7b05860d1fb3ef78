-- The one SOA of the sets, and the servers at its owner.
use Rattle.std.proofs.Common.{◌≡◌, ◌≤◌, refl, sym, ap, ◌∙◌, Bool, true, false, List, length, arith}
use Rattle.std.specs.Bool.{OnFalse, OnTrue}
use Rattle.dns_rdata.specs.Record.{Record, owner_of}
use Rattle.zone_tree.specs.declared.fault.BrokenRule.TheVariants.{TooManyRecords, NotAscending, NoSoa}
use Rattle.zone_tree.specs.Fault.{NoneBefore}
use Rattle.zone_tree.specs.Sets.{records_in, AreAscending}
use Rattle.zone_tree.proofs.FaultLemmas.{none_at_first, one_more_rule}
use Rattle.zone_tree.proofs.RuleLemmas.{no_servers, some_servers}
use Rattle.zone_tree.proofs.parts.find_apex.Goals as goal

pub check_order-requires-clause-first : goal.check_order-requires-clause-first
check_order-requires-clause-first c =
    let sets = c.args.sets.now in
    one_more_rule TooManyRecords NotAscending sets refl (none_at_first sets) (λ many. omega (arith, c.in_ok-check_count.ensures.few))

ascending : (sets : List (List Record)) → length (records_in sets) ≤ 1000000 → AreAscending sets → NoneBefore NoSoa sets
ascending sets few rising =
    one_more_rule NotAscending NoSoa sets refl (one_more_rule TooManyRecords NotAscending sets refl (none_at_first sets) (λ many. omega arith)) (λ broken. broken rising.ascending)

pub find_soa-requires-clause-first : goal.find_soa-requires-clause-first
find_soa-requires-clause-first c = ascending c.args.sets.now c.in_ok-check_count.ensures.few c.in_ok-check_order.ensures.rising

on_true : (P : Type 0) (b : Bool) → (b ≡ true → P) → OnTrue b P
on_true P true f = f refl
on_true P false f = tt

on_false : (P : Type 0) (b : Bool) → (b ≡ false → P) → OnFalse b P
on_false P true f = tt
on_false P false f = f refl

pub returns-clause-served : goal.returns-clause-served
returns-clause-served c =
    let apex = c.owner-name.ensures.of ∙ ap owner_of (c.index-sets-soa.is ∙ c.in_ok-soa.ensures.found.is c.index-sets-soa.result) in
    on_true _ c.has_name_server-has_name_server.result (λ shown. some_servers c.args.sets.now c.in_ok-check_order.ensures.rising c.owner-name.result apex (sym c.has_name_server-has_name_server.ensures ∙ shown))

pub returns-clause-unserved : goal.returns-clause-unserved
returns-clause-unserved c =
    let apex = c.owner-name.ensures.of ∙ ap owner_of (c.index-sets-soa.is ∙ c.in_ok-soa.ensures.found.is c.index-sets-soa.result) in
    on_false _ c.has_name_server-has_name_server.result (λ none. no_servers c.args.sets.now c.in_ok-check_order.ensures.rising c.owner-name.result apex (sym c.has_name_server-has_name_server.ensures ∙ none))
