use Rattle.std.proofs.Common.{◌∙◌}
use Rattle.master_file.proofs.CrowdedLemmas.{among_keys}
use Rattle.master_file.proofs.kept.KeptRecord.is_at.Goals as goal

pub returns : goal.returns
returns c = rw (← c.self.view_is) (c.contains.ensures ∙ among_keys c.args.owners.now.keys c.self.inside.owner)
