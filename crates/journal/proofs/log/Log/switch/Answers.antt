use Rattle.std.proofs.Common.{refl}
use Rattle.journal.proofs.log.Log.switch.Goals as goal

pub returns-clause-holds : goal.returns-clause-holds
returns-clause-holds g c head bodies is_written is_synced salt number end fit =
    record { is_written = is_written; is_synced = is_synced; salt = salt; number = number; end = end; fit = fit; goes_on = refl }
