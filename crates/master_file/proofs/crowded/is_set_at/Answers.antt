use Rattle.std.proofs.Common.{ap, ◌∙◌}
use Rattle.master_file.specs.FaultyLine.{is_among}
use Rattle.master_file.proofs.CrowdedLemmas.{among_keys}
use Rattle.master_file.proofs.crowded.is_set_at.Goals as goal

pub returns : goal.returns
returns c = c.contains.ensures ∙ among_keys c.args.owners.now.keys c.stored_owner.result.now ∙ ap (is_among c.args.owners.now.keys) c.stored_owner.ensures.of
