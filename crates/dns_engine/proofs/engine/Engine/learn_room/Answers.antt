use Rattle.std.proofs.Common.{ap, arith}
use Rattle.dns_engine.specs.Held.{EngineState}
use Rattle.dns_engine.proofs.engine.Engine.learn_room.Goals as goal

pub returns : goal.returns
returns g c some =
    let is = c.self.view_is in
    omega (arith, some, ap (λ (s : EngineState). s.free) is, ap (λ (s : EngineState). s.held.last.number) is)
