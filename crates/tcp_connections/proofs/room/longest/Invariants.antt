-- The longest of the keys so far.
use Rattle.slab.specs.Slab.{get}
use Rattle.tcp_connections.specs.Deadlines.{IsLeastBelow}
use Rattle.tcp_connections.specs.Places.{among_has, waits_in}
use Rattle.tcp_connections.proofs.room.longest.Given as goal

abbrev pub invariant-loop-key : goal.invariant-loop-key
invariant-loop-key g l = IsLeastBelow (λ k. waits_in (among_has l.among) (get l.connections k)) l.key l.longest
