-- One request after another.
use Rattle.std.proofs.Common.{refl, ◌∙◌}
use Rattle.tcp_connections.proofs.RequestLemmas.{each_itself, each_more}
use Rattle.tcp_connections.proofs.machine.prepare_next.Goals as goal

pub loop-between-init : goal.loop-between-init
loop-between-init g c = record { asker = refl; grows = each_itself _ }

pub loop-between-preserved : goal.loop-between-preserved
loop-between-preserved g c = record {
  asker = c.prepare_from.ensures.asker ∙ c.loop-between.invariant.asker;
  grows = each_more _ _ _ c.loop-between.invariant.grows c.prepare_from.ensures.grows;
}

pub returns-then-not-prepare_from-clause-grows : goal.returns-then-not-prepare_from-clause-grows
returns-then-not-prepare_from-clause-grows g c = each_more _ _ _ c.loop-between.invariant.grows c.prepare_from.ensures.grows
