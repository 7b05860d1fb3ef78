-- Connections are taken, and nothing else is done.
use Rattle.tcp_loop.specs.Steps.{stay}
use Rattle.tcp_loop.proofs.StepLemmas.{moves_as}
use Rattle.tcp_loop.proofs.worker.EventLoop.take_at.Goals as goal

pub returns-then-self-ne0-clause-moves : goal.returns-then-self-ne0-clause-moves
returns-then-self-ne0-clause-moves g c = stay

pub returns-clause-moves : goal.returns-clause-moves
returns-clause-moves g c = moves_as g.S.Remote.origin g.S.Blocking.octets c.args.now c.args.self.now.connections c.mark_place.new.self.connections c.take_some.new.self.connections c.mark_place.ensures.connections c.take_some.ensures.moves
