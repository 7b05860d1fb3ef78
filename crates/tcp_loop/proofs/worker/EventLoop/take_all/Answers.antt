-- One place behind the other.
use Rattle.std.proofs.Common.{refl, ◌∙◌}
use Rattle.tcp_loop.specs.Steps.{stay}
use Rattle.tcp_loop.proofs.StepLemmas.{moves_more}
use Rattle.tcp_loop.proofs.worker.EventLoop.take_all.Goals as goal

pub returns-then-now-self-clause-moves : goal.returns-then-now-self-clause-moves
returns-then-now-self-clause-moves g c = stay

pub loop-place-init : goal.loop-place-init
loop-place-init g c = record { moves = stay; time = refl; places = refl; few = λ few. few }

pub loop-place-preserved : goal.loop-place-preserved
loop-place-preserved g c = record {
  moves = moves_more g.S.Remote.origin g.S.Blocking.octets c.args.now c.args.self.now.connections c.loop-place.self.connections c.take_at.new.self.connections c.loop-place.invariant.moves c.take_at.ensures.moves;
  time = c.take_at.ensures.time ∙ c.loop-place.invariant.time;
  places = c.take_at.ensures.places ∙ c.loop-place.invariant.places;
  few = λ few. c.take_at.ensures.few (c.loop-place.invariant.few few);
}

pub returns-in_err-take_at-clause-moves : goal.returns-in_err-take_at-clause-moves
returns-in_err-take_at-clause-moves g c = moves_more g.S.Remote.origin g.S.Blocking.octets c.args.now c.args.self.now.connections c.loop-place.self.connections c.take_at.new.self.connections c.loop-place.invariant.moves c.take_at.ensures.moves
