use Rattle.master_file.proofs.kept.KeptRecord.into_parts.Goals as goal

pub returns-clause-folded : goal.returns-clause-folded
returns-clause-folded c = rw c.octets-octets.ensures.name at c.octets-octets.ensures.stored.folded
