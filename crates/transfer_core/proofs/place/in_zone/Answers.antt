-- Each set of the walk is passed, or is where the place is.
use Rattle.std.proofs.Common.{◌≤◌, [], ◌∷◌, ◌++◌, drop, sym, ap, ◌∙◌, arith, append_assoc}
use Rattle.zone_tree.specs.Zone.{soa_of}
use Rattle.zone_tree.specs.Sets.{records_in}
use Rattle.transfer_core.specs.Lists.{beside_soa}
use Rattle.transfer_core.proofs.PlaceLemmas.{zone_at, zone_passed}
use Rattle.transfer_core.proofs.place.in_zone.Goals as goal

pub loop-set-init : goal.loop-set-init
loop-set-init c = record {
  parts = ([], sym c.walk_from-walk.ensures.sets);
  same = ap (λ l. drop c.args.sent (beside_soa l ++ soa_of c.args.zone.now)) c.walk_from-walk.ensures.records;
}

pub returns-then-left-count : goal.returns-then-left-count
returns-then-left-count c = λ versions.
    let parts = c.loop-set.invariant.parts in
    let steps = c.in-Some.ensures.steps in
    let is = c.walk_from-walk.ensures.sets ∙ parts.1 ∙ ap (λ l. parts.0 ++ l) steps in
    zone_at c.args.zone.now c.loop-set.left c.rtype.result.0 c.owner.result c.in-Some.set.now c.next.new.self c.loop-set.walk _ c.owner.ensures.of c.rtype.ensures.of
    (c.walk_from-walk.ensures.rest parts.0 c.next.new.self c.in-Some.set.now is) steps c.loop-set.invariant.same

pub loop-set-preserved : goal.loop-set-preserved
loop-set-preserved c =
    let parts = c.loop-set.invariant.parts in
    let steps = c.in-Some.ensures.steps in
    let within : c.count_others-count.result ≤ c.loop-set.left = omega (arith, c.if-left-count.false) in
    record {
      parts = (parts.0 ++ c.in-Some.set.now ∷ [], parts.1 ∙ ap (λ l. parts.0 ++ l) steps ∙ sym (append_assoc parts.0 (c.in-Some.set.now ∷ []) c.next.new.self));
      same = zone_passed c.loop-set.left c.count_others-count.result c.in-Some.set.now c.next.new.self c.loop-set.walk (soa_of c.args.zone.now) _ c.count_others-count.ensures.count within steps c.loop-set.invariant.same;
    }

pub returns : goal.returns
returns c = λ versions.
    c.at_close.ensures versions
    ∙ ap (λ l. drop c.loop-set.left (beside_soa (records_in l) ++ soa_of c.args.zone.now)) (sym c.in_default.ensures.steps.0)
    ∙ c.loop-set.invariant.same
