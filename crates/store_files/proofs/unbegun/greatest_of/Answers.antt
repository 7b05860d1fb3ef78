use Rattle.std.proofs.Common.{inr, refl}
use Rattle.store_files.proofs.unbegun.greatest_of.Goals as goal

pub returns-in_default : goal.returns-in_default
returns-in_default c = inr (λ number is above. c.in_default.ensures number is, refl)
