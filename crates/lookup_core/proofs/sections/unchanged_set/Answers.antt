use Rattle.lookup_core.proofs.AdditionalLemmas.{shown_alone}
use Rattle.lookup_core.proofs.sections.unchanged_set.Goals as goal

pub returns-clause-records : goal.returns-clause-records
returns-clause-records c =
    rw c.stored.ensures (shown_alone c.args.set.now c.from_ref.result.now c.stored_owner.result.now c.from_ref.ensures.value c.stored_owner.ensures.shared)
