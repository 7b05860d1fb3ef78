use Rattle.zone_change.proofs.Law.{is_taken, acts}
use Rattle.zone_change.proofs.laws.changes_lead_there.Goals as goal

pub returns-clause-taken : goal.returns-clause-taken
returns-clause-taken c = is_taken

pub returns-clause-leads : goal.returns-clause-leads
returns-clause-leads c = acts
