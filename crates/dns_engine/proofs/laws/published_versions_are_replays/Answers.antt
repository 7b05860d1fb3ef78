-- By the versions published before.
use Rattle.dns_engine.proofs.ReplayLemmas.{last_latest, last_replay_of, last_number_of}
use Rattle.dns_engine.proofs.laws.published_versions_are_replays.Goals as goal

pub returns-clause-number : goal.returns-clause-number
returns-clause-number c = last_number_of

pub returns-clause-replay : goal.returns-clause-replay
returns-clause-replay c = last_replay_of

pub returns-clause-latest : goal.returns-clause-latest
returns-clause-latest c = last_latest
