-- The datagrams so far are answered.
use Rattle.requests.specs.Served.{Grows}
use Rattle.requests.proofs.ExchangeLemmas.{Known}
use Rattle.requests.proofs.gated.answer_through.Given as goal

abbrev pub invariant-loop-done : goal.invariant-loop-done
invariant-loop-done g l =
    Grows (g.A.Handler.seen l.handler) (g.A.Handler.seen l.initial.handler)
    × Known g.A.Handler.is_reply l.fn.allowed.rules.now (g.A.Handler.seen l.initial.handler) (g.D.Datagrams.datagrams l.initial.datagrams) (g.D.Datagrams.failed l.initial.datagrams) l._done (g.A.Handler.seen l.handler) (g.D.Datagrams.datagrams l.datagrams) (g.D.Datagrams.failed l.datagrams)
