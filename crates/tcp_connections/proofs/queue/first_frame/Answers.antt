-- The frame that octets begin with is the first of them.
use Rattle.std.proofs.Common.{sym, arith}
use Rattle.tcp_connections.proofs.FrameLemmas.{frame_counted}
use Rattle.tcp_connections.proofs.queue.first_frame.Goals as goal

pub returns-clause-frame : goal.returns-clause-frame
returns-clause-frame c = frame_counted c.args.octets.now c.in_ok-message.message.now c.in_ok-message.rest.now (λ i. omega (arith, c.type_inv.octets i)) (sym c.in_ok-message.ensures)
