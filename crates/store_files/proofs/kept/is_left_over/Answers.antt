use Rattle.std.proofs.Common.{inl, inr}
use Rattle.store_files.proofs.kept.is_left_over.Goals as goal

pub returns-in-None : goal.returns-in-None
returns-in-None c = (
  λ no. absurd (cc no),
  λ left. elim left [ inl laid ↦ c.if-is_laid.ensures.1 laid | inr other ↦ absurd (c.in-None.ensures other.0 other.1) ],
)
