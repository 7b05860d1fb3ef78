use Rattle.store_recovery.proofs.BeforeLemmas.{before_same, never_damaged, before_taken}
use Rattle.store_recovery.proofs.laws.damage_takes_nothing_in_front.Goals as goal

pub returns : goal.returns
returns c = record { same = before_same; undamaged = never_damaged; taken = before_taken }
