use Rattle.std.proofs.Common.{sym, ◌∙◌}
use Rattle.master_file.proofs.SetLemmas.{owner_folded}
use Rattle.master_file.proofs.kept.KeptRecord.is_of.Goals as goal

pub returns-then-eq-clause-owner : goal.returns-then-eq-clause-owner
returns-then-eq-clause-owner c = rw (← c.self.view_is) (λ e. sym c.stored_owner.ensures.of ∙ owner_folded c.stored_owner.result.now c.self.inside.owner c.stored_owner.ensures.folded (sym c.eq.ensures ∙ c.if-eq.true))
