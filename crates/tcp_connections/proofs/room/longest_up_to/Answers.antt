-- The key is looked at, too.
use Rattle.std.proofs.Common.{sym}
use Rattle.slab.specs.Slab.{get}
use Rattle.tcp_connections.specs.Places.{among_has, waits_in}
use Rattle.tcp_connections.proofs.room.longest_up_to.Goals as goal

pub returns-in-Some : goal.returns-in-Some
returns-in-Some g c = λ below. c.lesser.ensures (λ k. waits_in (among_has c.args.among) (get c.args.connections.now k)) below (sym c.in-Some.ensures)
