use Rattle.std.proofs.Common.{◌∙◌}
use Rattle.std.proofs.lemmas.List.{take_rest}
use Rattle.wire_names.proofs.PlainLemmas.{plain_name}
use Rattle.wire_names.proofs.read_into.read_plain.Goals as goal

pub returns-clause-found : goal.returns-clause-found
returns-clause-found c =
    plain_name c.args.msg.now c.in_ok-rest.rest.now c.args.at c.in_ok-len.len c.set_from_wire.new.self (c.in_ok-rest.ensures.lookup.0.2 ∙ take_rest c.args.msg.now c.args.at)
    c.in_ok-len.ensures.lawful c.in_ok-len.ensures.octets.0 c.in_ok-len.ensures.octets.1
