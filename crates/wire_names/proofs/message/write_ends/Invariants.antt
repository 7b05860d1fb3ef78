use Rattle.wire_names.specs.Leads.{AreEnds}
use Rattle.wire_names.proofs.message.write_ends.Given as goal

abbrev pub invariant-loop-at : goal.invariant-loop-at
invariant-loop-at l = AreEnds l.octets l.ends l.at
