use Rattle.store_recovery.proofs.ChoiceLemmas.{one_choice_of, choice_apart}
use Rattle.store_recovery.proofs.store_laws.one_choice.Goals as goal

pub returns : goal.returns
returns c = record { once = one_choice_of; apart = choice_apart }
