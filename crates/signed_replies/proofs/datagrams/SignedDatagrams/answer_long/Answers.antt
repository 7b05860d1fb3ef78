-- A request is answered at some time, by what it is by its TSIG then.
use Rattle.signed_replies.proofs.ReplyLemmas.{unsigned_at}
use Rattle.signed_replies.proofs.datagrams.SignedDatagrams.answer_long.Goals as goal

pub answer_plain-requires-clause-unsigned : goal.answer_plain-requires-clause-unsigned
answer_plain-requires-clause-unsigned g c = unsigned_at g.K.KeyRing.keys 0 c.args.request.now c.with_room-message.result c.requires.short c.with_room-message.ensures c.if-is_unsigned.ensures
