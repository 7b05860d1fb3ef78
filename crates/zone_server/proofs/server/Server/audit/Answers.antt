-- Who has the right knows all that is published.
use Rattle.std.proofs.Common.{length, ap, ◌∙◌, sym, subst}
use Rattle.snapshot_cell.specs.Tokens.{ReaderState}
use Rattle.zone_tree.specs.Version.{Version}
use Rattle.dns_engine.specs.Held.{EngineState, IsLatest}
use Rattle.dns_engine.specs.Replayed.{IsReplay}
use Rattle.zone_server.proofs.server.Server.audit.Goals as goal

pub returns : goal.returns
returns g c =
    let same = c.deref.ensures ∙ c.audit.ensures.same in
    record {
      met = (
        c.deref_mut.result.now,
        record {
          begun = c.audit.ensures.begun;
          latest = subst (λ (s : EngineState). IsLatest g.Z.FirstZone.zone s.held.published s.held.last) same c.number.ensures.latest;
          replayed = subst (λ (s : EngineState). IsReplay g.Z.FirstZone.zone s.held.last) same c.number.ensures.replayed;
          seen = c.audit.ensures.met;
        },
        ap (λ (s : EngineState). s.held.last.number) (sym same) ∙ sym c.number.ensures.number,
      );
      counted = c.audit.ensures.counted ∙ ap (λ (r : ReaderState Version). length r.seen) (sym c.audit.ensures.met);
      all = c.audit.ensures.all;
      right = c.audit.ensures.right;
    }
