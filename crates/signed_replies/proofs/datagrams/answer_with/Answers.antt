-- The reply is the handler's, by what is known once it has the TSIG.
use Rattle.std.proofs.lemmas.Result.{IfOk-weaker}
use Rattle.requests.proofs.TurnLemmas.{grows_more}
use Rattle.signed_replies.proofs.datagrams.answer_with.Goals as goal

pub returns-clause-grows : goal.returns-clause-grows
returns-clause-grows g c = grows_more _ _ _ c.set_tsig.ensures.grows c.answer_as.ensures.grows

pub returns-clause-reply : goal.returns-clause-reply
returns-clause-reply g c = IfOk-weaker c.answer_as.result _ _ (λ len is. (is.0, grows_more _ _ _ c.set_tsig.ensures.grows is.1, is.2, is.3)) c.answer_as.ensures.reply
