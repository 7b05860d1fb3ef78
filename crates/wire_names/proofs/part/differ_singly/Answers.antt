use Rattle.std.proofs.Common.{◌≡◌, length, rules}
use Rattle.wire_names.proofs.DifferLemmas.{both_empty, differ_not}
use Rattle.wire_names.proofs.part.differ_singly.Goals as goal

pub returns-in_default-2 : goal.returns-in_default-2
returns-in_default-2 c =
    let none : length c.loop-octet.rest.now ≡ 0 = search rules in
    differ_not c.args.label.now c.args.other.now (c.loop-octet.invariant.same.1 (both_empty _ _ c.loop-octet.invariant.many none))
