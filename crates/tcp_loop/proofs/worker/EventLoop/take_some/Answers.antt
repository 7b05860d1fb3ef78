-- One connection behind the other.
use Rattle.std.proofs.Common.{refl, ◌∙◌}
use Rattle.tcp_loop.specs.Steps.{stay}
use Rattle.tcp_loop.proofs.StepLemmas.{moves_more}
use Rattle.tcp_loop.proofs.worker.EventLoop.take_some.Goals as goal

pub loop-taken-init : goal.loop-taken-init
loop-taken-init g c = record { moves = stay; time = refl; places = refl; few = λ few. few }

pub loop-taken-preserved : goal.loop-taken-preserved
loop-taken-preserved g c = record {
  moves = moves_more g.S.Remote.origin g.S.Blocking.octets c.args.now c.args.self.now.connections c.loop-taken.self.connections c.take_one.new.self.connections c.loop-taken.invariant.moves c.take_one.ensures.moves;
  time = c.take_one.ensures.time ∙ c.loop-taken.invariant.time;
  places = c.take_one.ensures.places ∙ c.loop-taken.invariant.places;
  few = λ few. c.take_one.ensures.few (c.loop-taken.invariant.few few);
}

pub returns-in-Some-clause-moves : goal.returns-in-Some-clause-moves
returns-in-Some-clause-moves g c = moves_more g.S.Remote.origin g.S.Blocking.octets c.args.now c.args.self.now.connections c.loop-taken.self.connections c.take_one.new.self.connections c.loop-taken.invariant.moves c.take_one.ensures.moves

pub returns-in_err-may_come-clause-moves : goal.returns-in_err-may_come-clause-moves
returns-in_err-may_come-clause-moves g c = moves_more g.S.Remote.origin g.S.Blocking.octets c.args.now c.args.self.now.connections c.loop-taken.self.connections c.take_one.new.self.connections c.loop-taken.invariant.moves c.take_one.ensures.moves
