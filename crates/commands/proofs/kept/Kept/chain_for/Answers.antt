use Rattle.commands.proofs.VersionsLemmas.{told_of_kept}
use Rattle.commands.proofs.kept.Kept.chain_for.Goals as goal

pub returns : goal.returns
returns c = λ past holds. told_of_kept past c.args.self.now holds _ _ _ _ c.len.ensures (c.chain_since.ensures.changes holds.gone holds.known)
