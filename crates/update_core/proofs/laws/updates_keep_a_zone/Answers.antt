use Rattle.update_core.proofs.ActKeeps.{act_zone, act_apex, replay_zone}
use Rattle.update_core.proofs.laws.updates_keep_a_zone.Goals as goal

pub returns-clause-zone : goal.returns-clause-zone
returns-clause-zone c = act_zone

pub returns-clause-apex : goal.returns-clause-apex
returns-clause-apex c = act_apex

pub returns-clause-replayed : goal.returns-clause-replayed
returns-clause-replayed c = replay_zone
