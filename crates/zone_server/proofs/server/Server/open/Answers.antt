-- The number is that of the last version that the reader has met.
use Rattle.std.proofs.Common.{ap, ◌∙◌, sym}
use Rattle.dns_engine.specs.Held.{EngineState}
use Rattle.zone_server.proofs.server.Server.open.Goals as goal

pub returns : goal.returns
returns g c =
    let same = c.deref.ensures ∙ c.meet_last.ensures.same in
    (c.deref_mut.result.now, c.meet_last.ensures.met, ap (λ (s : EngineState). s.held.last.number) (sym same) ∙ sym c.number-number.ensures.number)
