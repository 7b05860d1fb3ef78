-- The ring is that of the keys and rules that are passed.
use Rattle.std.proofs.Common.{map}
use Rattle.test_tsig.proofs.answered.is_right.Given as goal

abbrev pub ghosts-reply_to : goal.ghosts-reply_to
ghosts-reply_to g a = record { keys = a.keys.now; rights = map (λ own. own.rules.now) a.rights.now }
