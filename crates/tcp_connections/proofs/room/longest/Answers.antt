-- No key beyond the last slot has a connection.
use Rattle.std.proofs.Common.{ℕ, ap, arith, None, option_map}
use Rattle.std.proofs.lemmas.List.{get_or_past}
use Rattle.slab.specs.Slab.{get}
use Rattle.tcp_connections.specs.Places.{among_has, waits_in}
use Rattle.tcp_connections.proofs.SweepLemmas.{least_at, none_at}
use Rattle.tcp_connections.proofs.room.longest.Goals as goal

pub returns-in-Some : goal.returns-in-Some
returns-in-Some g c =
    least_at (λ k. waits_in (among_has c.args.among) (get c.args.connections.now k)) c.loop-key.key c.loop-key.longest c.in-Some.key c.loop-key.invariant
    (λ k over. ap (waits_in (among_has c.args.among)) (get_or_past c.args.connections.now.slots k None (omega (arith, over, c.capacity-key-end.ensures.slots, c.loop-key-test.false))))
    (ap (option_map (λ (l : ℕ × ℕ). l.0)) c.in-Some.is)

pub returns-in-None : goal.returns-in-None
returns-in-None g c =
    none_at (λ k. waits_in (among_has c.args.among) (get c.args.connections.now k)) c.loop-key.key c.loop-key.longest c.loop-key.invariant
    (λ k over. ap (waits_in (among_has c.args.among)) (get_or_past c.args.connections.now.slots k None (omega (arith, over, c.capacity-key-end.ensures.slots, c.loop-key-test.false))))
    (ap (option_map (λ (l : ℕ × ℕ). l.0)) c.in-None.is)
