-- Each version is made of the one before it by an update that a line sends.
use Rattle.world_laws.proofs.ReplayLemmas.{versions_replayed, answered_in_replay}
use Rattle.world_laws.proofs.laws.versions_are_replays.Goals as goal

pub returns-clause-replay : goal.returns-clause-replay
returns-clause-replay c = versions_replayed

pub returns-clause-answered : goal.returns-clause-answered
returns-clause-answered c = answered_in_replay
