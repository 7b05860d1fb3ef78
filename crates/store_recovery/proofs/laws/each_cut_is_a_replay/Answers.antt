use Rattle.store_recovery.proofs.StoreLemmas.{cut_taken, cut_accepted}
use Rattle.store_recovery.proofs.laws.each_cut_is_a_replay.Goals as goal

pub returns : goal.returns
returns c = record { taken = cut_taken; accepted = cut_accepted }
