-- A request is answered at some time, by what it is by its TSIG then.
use Rattle.signed_replies.proofs.ReplyLemmas.{unsigned_at}
use Rattle.signed_replies.proofs.datagrams.SignedDatagrams.answer_short.Goals as goal

pub answer_plain-requires-clause-unsigned : goal.answer_plain-requires-clause-unsigned
answer_plain-requires-clause-unsigned g c = unsigned_at g.K.KeyRing.keys 0 c.args.request.now c.new-message.result c.requires.short c.new-message.ensures c.if-is_unsigned.ensures
