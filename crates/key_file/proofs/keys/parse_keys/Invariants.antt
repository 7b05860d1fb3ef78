-- The keys so far are lawful.
use Rattle.key_file.specs.Keys.{AreKeys}
use Rattle.key_file.proofs.keys.parse_keys.Given as goal

abbrev pub invariant-loop : goal.invariant-loop
invariant-loop l = record { keys : AreKeys l.file.keys }
