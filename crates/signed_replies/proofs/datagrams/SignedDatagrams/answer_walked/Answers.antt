-- More octets than a message has are no message, and have no TSIG.
use Rattle.std.proofs.Common.{arith, sym, ◌<◌, length}
use Rattle.dns_message.specs.Message.{message_limit}
use Rattle.signed_replies.proofs.ReplyLemmas.{too_many}
use Rattle.signed_replies.proofs.datagrams.SignedDatagrams.answer_walked.Goals as goal

pub answer_plain-requires-clause-unsigned : goal.answer_plain-requires-clause-unsigned
answer_plain-requires-clause-unsigned g c =
    let long : message_limit < length c.args.request.now = omega arith in
    sym (too_many g.K.KeyRing.keys 0 c.args.request.now long)
