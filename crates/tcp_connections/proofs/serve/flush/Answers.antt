-- One write behind the other.
use Rattle.std.proofs.Common.{ℕ, refl, ◌∙◌, subst}
use Rattle.tcp_connections.specs.StreamOctets.{EndCounted}
use Rattle.tcp_connections.proofs.StreamOctetLemmas.{stays_itself, stays_more, writes_itself, writes_more, ends_stay}
use Rattle.tcp_connections.proofs.serve.flush.Goals as goal

pub loop-written-init : goal.loop-written-init
loop-written-init g c = record { stays = stays_itself _; held = refl; written = writes_itself _; same = refl }

pub loop-written-preserved : goal.loop-written-preserved
loop-written-preserved g c =
    let so_far = c.loop-written.invariant in
    record {
      stays = stays_more _ _ _ so_far.stays c.in-Ok-More.ensures.stays;
      held = c.in-Ok-More.ensures.held ∙ so_far.held;
      written = writes_more _ _ _ so_far.written c.in-Ok-More.ensures.written;
      same = c.in-Ok-More.ensures.same ∙ so_far.same;
    }

pub returns-in-Ok-clause-stays : goal.returns-in-Ok-clause-stays
returns-in-Ok-clause-stays g c = stays_more _ _ _ c.loop-written.invariant.stays c.in-Ok.ensures.stays

pub returns-in-Ok-clause-written : goal.returns-in-Ok-clause-written
returns-in-Ok-clause-written g c = writes_more _ _ _ c.loop-written.invariant.written c.in-Ok.ensures.written

pub returns-in-Err-clause-ends : goal.returns-in-Err-clause-ends
returns-in-Err-clause-ends g c = ends_stay c.in-Err.end _ _ _ c.loop-written.invariant.stays c.in-Err.ensures.ends

pub returns-in-Err-clause-written : goal.returns-in-Err-clause-written
returns-in-Err-clause-written g c = writes_more _ _ _ c.loop-written.invariant.written c.in-Err.ensures.written

pub returns-in-Err-clause-counted : goal.returns-in-Err-clause-counted
returns-in-Err-clause-counted g c =
    subst (λ (faults : ℕ). EndCounted c.in-Err.end faults (g.S.Blocking.faults c.write_some.new.stream)) c.loop-written.invariant.same c.in-Err.ensures.counted
