use Rattle.std.proofs.Common.{refl}
use Rattle.journal.proofs.log.Log.stop.Goals as goal

pub returns-clause-stopped : goal.returns-clause-stopped
returns-clause-stopped g c head bodies holds = record { is_synced = holds.is_synced; stuck = refl }
