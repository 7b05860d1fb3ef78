use Rattle.journal.proofs.HeadLemmas.{one_head, no_fault}
use Rattle.journal.proofs.laws.one_head.Goals as goal

pub returns : goal.returns
returns c = record { once = one_head; accepted = no_fault }
