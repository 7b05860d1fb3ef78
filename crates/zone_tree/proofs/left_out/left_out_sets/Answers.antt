use Rattle.std.proofs.Common.{◌++◌, sym, ap, ◌∙◌, subst}
use Rattle.std.specs.List.{AllByRecursion}
use Rattle.std.proofs.lemmas.List.{take_all}
use Rattle.std.proofs.lemmas.List.Elements.{All-from_recursion}
use Rattle.zone_tree.specs.Sets.{records_in, IsRRset, AreAscending}
use Rattle.zone_tree.specs.Delta.{sets_left_out, sets_of, AreWholeAt}
use Rattle.zone_tree.proofs.DeltaLemmas.{whole_lawful, out_more, whole_more, left_out_ascends, left_out_records}
use Rattle.zone_tree.proofs.left_out.left_out_sets.Goals as goal

pub put_left_out-requires : goal.put_left_out-requires
put_left_out-requires c = All-from_recursion IsRRset c.stored_sets.result.now (whole_lawful c.args.zone.now c.soa-soa.ensures.lawful c.stored_sets.result.now c.stored_sets.ensures.whole)

pub loop-owner-preserved : goal.loop-owner-preserved
loop-owner-preserved c =
    let zone = c.args.zone.now in
    let owners = c.args.owners.now in
    let i = c.loop-owner.owner-index in
    let o = c.owner-item.result in
    let h = c.loop-owner.invariant in
    record {
      sets = c.in_ok-put_left_out.ensures ∙ ap (λ l. l ++ sets_left_out c.stored_sets.result.now c.args.other.now) h.sets
          ∙ out_more zone c.args.other.now owners i o c.loop-owner-test.true c.owner-item.is c.stored_sets.result.now c.stored_sets.ensures.records c.stored_sets.ensures.whole;
      whole = whole_more zone c.args.other.now owners i o c.loop-owner-test.true c.owner-item.is c.stored_sets.result.now c.stored_sets.ensures.records c.stored_sets.ensures.whole h.whole;
    }

pub returns-clause-ascending : goal.returns-clause-ascending
returns-clause-ascending c =
    let zone = c.args.zone.now in
    let owners = c.args.owners.now in
    let all = take_all c.loop-owner.owner-index owners c.loop-owner-test.false in
    let whole = subst (AllByRecursion (AreWholeAt zone)) all c.loop-owner.invariant.whole in
    subst AreAscending (sym (c.loop-owner.invariant.sets ∙ ap (λ l. sets_left_out (sets_of zone l) c.args.other.now) all))
    (left_out_ascends zone c.args.other.now c.soa-soa.ensures.lawful owners c.requires.ascending whole)

pub returns-clause-records : goal.returns-clause-records
returns-clause-records c =
    let zone = c.args.zone.now in
    let owners = c.args.owners.now in
    let all = take_all c.loop-owner.owner-index owners c.loop-owner-test.false in
    let whole = subst (AllByRecursion (AreWholeAt zone)) all c.loop-owner.invariant.whole in
    ap records_in (c.loop-owner.invariant.sets ∙ ap (λ l. sets_left_out (sets_of zone l) c.args.other.now) all)
    ∙ left_out_records zone c.args.other.now c.soa-soa.ensures.lawful owners c.requires.ascending whole c.requires.apart
