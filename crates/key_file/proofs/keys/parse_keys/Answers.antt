-- A file without a key is lawful.
use Rattle.std.proofs.Common.{sym, subst}
use Rattle.key_file.specs.Keys.{AreKeys}
use Rattle.key_file.proofs.KeyLemmas.{no_keys}
use Rattle.key_file.proofs.keys.parse_keys.Goals as goal

pub loop-init : goal.loop-init
loop-init c = record { keys = subst AreKeys (sym c.new.ensures) no_keys }
