-- One that is over is counted.
use Rattle.std.proofs.Common.{refl, sym, ◌∙◌}
use Rattle.slab.specs.Slab.{slab_len}
use Rattle.tcp_connections.proofs.BegunLemmas.{over_waits}
use Rattle.tcp_connections.proofs.LenLemmas.{where_some, counted_none, counted_late, counted_slow}
use Rattle.tcp_connections.proofs.deadlines.sweep_key.Goals as goal

pub returns-in_default-clause-ended : goal.returns-in_default-clause-ended
returns-in_default-clause-ended g c = counted_none c.args.ends.now (slab_len c.args.connections.now) (slab_len c.args.connections.now) refl

pub count_late-requires : goal.count_late-requires
count_late-requires g c = over_waits c.args.limits c.args.now c.in-Some.connection.now.begun c.in-Some.connection.now.state c.is_over.result c.awaits.result c.is_over.ensures c.if-is_over.true c.awaits.ensures

pub returns-then-is_over-clause-ended : goal.returns-then-is_over-clause-ended
returns-then-is_over-clause-ended g c = counted_late c.args.ends.now c.count_late.new.self (slab_len c.args.connections.now) (slab_len c.try_remove.new.self) c.awaits.result (over_waits c.args.limits c.args.now c.in-Some.connection.now.begun c.in-Some.connection.now.state c.is_over.result c.awaits.result c.is_over.ensures c.if-is_over.true c.awaits.ensures) c.count_late.ensures (where_some c.try_remove.result c.in-Some.connection.now (c.try_remove.ensures.value ∙ sym c.in-Some.ensures) c.try_remove.ensures.len)

pub returns-then-is_slow-clause-ended : goal.returns-then-is_slow-clause-ended
returns-then-is_slow-clause-ended g c = counted_slow c.args.ends.now c.count_slow.new.self (slab_len c.args.connections.now) (slab_len c.try_remove-then-is_slow.new.self) c.count_slow.ensures (where_some c.try_remove-then-is_slow.result c.in-Some.connection.now (c.try_remove-then-is_slow.ensures.value ∙ sym c.in-Some.ensures) c.try_remove-then-is_slow.ensures.len)

pub returns-clause-ended : goal.returns-clause-ended
returns-clause-ended g c = counted_none c.args.ends.now (slab_len c.args.connections.now) (slab_len c.go_on.new.connections) c.go_on.ensures.len
