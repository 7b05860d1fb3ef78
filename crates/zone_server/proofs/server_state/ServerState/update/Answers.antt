-- What is told is about the engine as it then is.
use Rattle.std.proofs.Common.{sym, subst}
use Rattle.dns_engine.specs.Held.{EngineState}
use Rattle.dns_engine.specs.Outcomes.{IsTold}
use Rattle.zone_server.proofs.server_state.ServerState.update.Goals as goal

pub returns : goal.returns
returns g c = record {
  reported = subst (λ (s : EngineState). IsTold c.args.self.now c.args.update.now c.args.may c.update_by-code.result s) (sym c.self-2.view_is)
      (subst (λ (s : EngineState). IsTold s c.args.update.now c.args.may c.update_by-code.result c.update_by-code.new.self) c.self.view_is c.update_by-code.ensures);
}
