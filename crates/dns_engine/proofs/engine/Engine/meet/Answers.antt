-- Who publishes is as before.
use Rattle.std.proofs.Common.{ap, ◌∙◌}
use Rattle.zone_tree.specs.Version.{Version}
use Rattle.snapshot_cell.specs.Tokens.{PublisherState}
use Rattle.dns_engine.specs.Held.{EngineState, free_of}
use Rattle.dns_engine.proofs.engine.Engine.meet.Goals as goal

pub returns-clause-same : goal.returns-clause-same
returns-clause-same g c =
    let inside = c.self.inside in
    let state : PublisherState Version → EngineState = λ p.
    record {
      held = record { published = inside.reader.seen; last = inside.last.value; keep = inside.keep; older = inside.older };
      left = inside.reader.left;
      free = free_of p.ready inside.reader.left p.noted inside.last.value.number;
    } in
    ap state c.meet.ensures.same ∙ c.self.view_is
