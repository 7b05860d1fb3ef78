-- One turn after the other, to the end.
use Rattle.std.proofs.Common.{sym, subst}
use Rattle.update_batches.specs.Turned.{state_of, HasServed}
use Rattle.update_batches.proofs.ServedLemmas.{served_none, served_on}
use Rattle.update_batches.proofs.update_thread.UpdateThread.serve.Goals as goal

pub loop-init : goal.loop-init
loop-init g c =
    served_none g.S.UpdateStore.has g.S.UpdateStore.leaves
    (state_of (g.P.UpdatePublisher.published c.args.self.now.publisher) (g.P.UpdatePublisher.room c.args.self.now.publisher) (g.P.UpdatePublisher.replied c.args.self.now.publisher)
    c.args.self.now.store c.args.self.now.waiting.items)

pub loop-preserved : goal.loop-preserved
loop-preserved g c =
    served_on g.S.UpdateStore.has g.S.UpdateStore.leaves
    c.loop.invariant c.in-Ok.ensures.turned

pub returns-in-Err-clause-served : goal.returns-in-Err-clause-served
returns-in-Err-clause-served g c =
    let old = state_of (g.P.UpdatePublisher.published c.args.self.now.publisher) (g.P.UpdatePublisher.room c.args.self.now.publisher) (g.P.UpdatePublisher.replied c.args.self.now.publisher)
    c.args.self.now.store c.args.self.now.waiting.items in
    subst (λ s. HasServed g.S.UpdateStore.has g.S.UpdateStore.leaves old s)
    (sym c.in-Err.ensures.ended) c.loop.invariant
