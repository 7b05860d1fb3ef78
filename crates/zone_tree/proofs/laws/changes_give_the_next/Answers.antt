use Rattle.zone_tree.proofs.DeltaLemmas.{left_out_itself}
use Rattle.zone_tree.proofs.PatchLemmas.{put_changes}
use Rattle.zone_tree.proofs.laws.changes_give_the_next.Goals as goal

pub returns-clause-none : goal.returns-clause-none
returns-clause-none c = left_out_itself

pub returns-clause-next : goal.returns-clause-next
returns-clause-next c zone next changes h k is = put_changes zone next h k changes is
