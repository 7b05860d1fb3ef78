use Rattle.std.proofs.Common.{◌∙◌}
use Rattle.std.proofs.lemmas.List.{take_rest}
use Rattle.wire_names.proofs.PlainLemmas.{stands_by}
use Rattle.wire_names.proofs.table.stands_at.Goals as goal

pub returns-then-eq : goal.returns-then-eq
returns-then-eq c =
    stands_by c.args.msg.now _ c.args.octets.now c.args.at _ (c.in-Some.ensures.lookup.0.2 ∙ take_rest c.args.msg.now c.args.at) c.starts_with.ensures.value
