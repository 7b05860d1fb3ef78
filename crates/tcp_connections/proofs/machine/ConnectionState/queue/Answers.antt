-- A reply stands behind what is to be written.
use Rattle.std.proofs.Common.{ap, sym, ◌++◌, ◌∙◌}
use Rattle.requests.specs.Octets.{frames_of}
use Rattle.tcp_connections.specs.Kept.{Kept, due, messages_of}
use Rattle.tcp_connections.specs.declared.handler.Reply.{Reply}
use Rattle.tcp_connections.proofs.FrameLemmas.{queued_many}
use Rattle.tcp_connections.proofs.machine.ConnectionState.queue.Goals as goal

pub returns-in-Many-clause-queued : goal.returns-in-Many-clause-queued
returns-in-Many-clause-queued g c =
    queued_many c.args.self.now c.self.inside.ready _ (ap (λ (k : Kept). k.ready) c.self.view_is) c.requires.none
    ∙ ap (λ (reply : Reply g.row.M.Denot). due c.args.self.now ++ frames_of (messages_of g.M.Messages.left reply c.args.out.now)) (sym c.in-Many.is)
