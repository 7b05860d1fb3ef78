use Rattle.store_recovery.proofs.ChoiceLemmas.{refused_alone}
use Rattle.store_recovery.proofs.store_laws.other_apex_is_refused.Goals as goal

pub returns : goal.returns
returns c = refused_alone
