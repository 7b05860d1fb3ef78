-- A connection begins, as its address has it, or there is no memory for it.
use Rattle.tcp_loop.proofs.StepLemmas.{moves_as, moves_put}
use Rattle.tcp_loop.proofs.worker.EventLoop.put.Goals as goal

pub returns-clause-moves : goal.returns-clause-moves
returns-clause-moves g c =
    moves_as g.S.Remote.origin g.S.Blocking.octets c.args.now c.args.self.now.connections c.note.new.self.connections c.insert.new.self c.note.ensures.connections
    (moves_put g.S.Remote.origin g.S.Blocking.octets c.args.now c.insert.result c.address-from.result c.args.stream c.args.self.now.connections c.insert.new.self c.new-connection.result c.insert.ensures.was_vacant c.insert.ensures.updates c.insert.ensures.err c.new-connection.ensures.stream c.new-connection.ensures.from c.address-from.ensures c.new-connection.ensures.fresh c.new-connection.ensures.begun c.new-connection.ensures.group c.new-connection.ensures.window)
