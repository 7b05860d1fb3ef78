-- The ring is that of the keys and rules that are passed.
use Rattle.std.proofs.Common.{map}
use Rattle.test_tsig.proofs.prepared.is_right.Given as goal

abbrev pub ghosts-taken_up : goal.ghosts-taken_up
ghosts-taken_up g a = record { keys = a.keys.now; rights = map (λ own. own.rules.now) a.rights.now }
