use Rattle.std.proofs.Common.{◌<◌, length, rules}
use Rattle.journal.proofs.BatchLemmas.{no_joint_first}
use Rattle.journal.proofs.batch.after_joint.Goals as goal

pub returns-then-not-is_empty : goal.returns-then-not-is_empty
returns-then-not-is_empty c =
    let some : 0 < length c.in_ok-first.first.now = search rules in
    no_joint_first c.args.octets.now c.in_ok-first.first.now c.in_ok-first.rest.now some c.in_ok-first.ensures.0 c.in_ok-first.ensures.1
