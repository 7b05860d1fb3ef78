-- At the end no reply is held back.
use Rattle.requests.proofs.ExchangeLemmas.{all_flushed}
use Rattle.requests.proofs.udp.serve_datagrams.Goals as goal

pub returns-clause-answered : goal.returns-clause-answered
returns-clause-answered g c =
    all_flushed g.A.Handler.is_reply c.args.allowed.rules.now c.answer_all-end.result _ _ _ _ _ _ _ _ _ c.flush.ensures.same c.flush.ensures.counted c.answer_all-end.ensures.answered
