-- One job more hasn't failed, or has.
use Rattle.std.proofs.Common.{◌≡◌, All, None, sym, ◌∙◌, subst}
use Rattle.std.proofs.lemmas.List.{take_all}
use Rattle.std.proofs.lemmas.List.Elements.{All-more}
use Rattle.serve_workers.specs.Numbers.{end_of, fault_by}
use Rattle.serve_workers.proofs.service.fault_in.Goals as goal

pub loop-thread-preserved : goal.loop-thread-preserved
loop-thread-preserved g c =
    All-more (λ thread. fault_by (end_of thread.job) ≡ None) c.args.threads.now c.loop-thread.thread-index c.thread-item.result c.loop-thread-test.true c.loop-thread.invariant
    (subst (λ thread. fault_by (end_of thread.job) ≡ None) c.thread-item.is (sym c.fault.ensures ∙ c.in_default.is))

pub returns-in-Some : goal.returns-in-Some
returns-in-Some g c = (c.loop-thread.thread-index, c.thread-item.result, c.loop-thread-test.true, sym c.thread-item.is, sym c.fault.ensures ∙ c.in-Some.is)

pub returns : goal.returns
returns g c = subst (λ threads. All (λ thread. fault_by (end_of thread.job) ≡ None) threads) (take_all c.loop-thread.thread-index c.args.threads.now c.loop-thread-test.false) c.loop-thread.invariant
