-- One turn after the other.
use Rattle.update_batches.specs.Turned.{state_of, HasServed}
use Rattle.update_batches.proofs.update_thread.UpdateThread.serve.Given as goal

abbrev pub invariant-loop : goal.invariant-loop
invariant-loop g l =
    HasServed g.S.UpdateStore.has g.S.UpdateStore.leaves
    (state_of (g.P.UpdatePublisher.published l.fn.self.publisher) (g.P.UpdatePublisher.room l.fn.self.publisher) (g.P.UpdatePublisher.replied l.fn.self.publisher) l.fn.self.store l.fn.self.waiting.items)
    (state_of (g.P.UpdatePublisher.published l.self.publisher) (g.P.UpdatePublisher.room l.self.publisher) (g.P.UpdatePublisher.replied l.self.publisher) l.self.store l.self.waiting.items)
