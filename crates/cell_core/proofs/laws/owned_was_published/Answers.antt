-- Every run keeps it.
use Rattle.cell_core.proofs.LawLemmas.{reached_sound}
use Rattle.cell_core.proofs.laws.owned_was_published.Goals as goal

pub returns-clause-strong : goal.returns-clause-strong
returns-clause-strong g c cell r = (reached_sound cell r).strong_published

pub returns-clause-weak : goal.returns-clause-weak
returns-clause-weak g c cell r = (reached_sound cell r).weak_published
