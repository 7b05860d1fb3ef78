-- One gives its place, or none does.
use Rattle.std.proofs.Common.{refl}
use Rattle.tcp_loop.proofs.StepLemmas.{moves_same, moves_made}
use Rattle.tcp_loop.proofs.worker.EventLoop.make_place.Goals as goal

pub returns-in-Free-clause-moves : goal.returns-in-Free-clause-moves
returns-in-Free-clause-moves g c = λ now stream of. moves_same g.S.Remote.origin g.S.Blocking.octets now c.args.self.now.connections c.make_room.new.connections (c.in-Free.ensures.free refl).1

pub returns-in-Made-clause-moves : goal.returns-in-Made-clause-moves
returns-in-Made-clause-moves g c = λ now stream of.
    moves_made g.S.Remote.origin g.S.Blocking.octets now stream c.args.newcomer c.args.self.now.connections c.make_room.new.connections c.in-Made._key of (c.in-Made.ensures.made c.in-Made._key refl).0 (c.in-Made.ensures.made c.in-Made._key refl).1 (c.in-Made.ensures.others c.in-Made._key refl)

pub returns-in-Full-clause-moves : goal.returns-in-Full-clause-moves
returns-in-Full-clause-moves g c = λ now stream of. moves_same g.S.Remote.origin g.S.Blocking.octets now c.args.self.now.connections c.make_room.new.connections (c.in-Full.ensures.full refl).2
