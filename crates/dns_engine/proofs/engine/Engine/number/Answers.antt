-- The last version is the latest, and a replay.
use Rattle.std.proofs.Common.{subst}
use Rattle.dns_engine.specs.Held.{EngineState, IsLatest}
use Rattle.dns_engine.specs.Replayed.{IsReplay}
use Rattle.dns_engine.proofs.ReplayLemmas.{newest_latest, newest_replay}
use Rattle.dns_engine.proofs.engine.Engine.number.Goals as goal

pub returns-clause-latest : goal.returns-clause-latest
returns-clause-latest g c =
    subst (λ (state : EngineState). IsLatest g.Z.FirstZone.zone state.held.published state.held.last) c.self.view_is (newest_latest g.Z.FirstZone.zone _ c.self.invariant.4)

pub returns-clause-replayed : goal.returns-clause-replayed
returns-clause-replayed g c =
    subst (λ (state : EngineState). IsReplay g.Z.FirstZone.zone state.held.last) c.self.view_is (newest_replay g.Z.FirstZone.zone _ c.self.invariant.4)
