use Rattle.std.proofs.Common.{Bool, not, ◌&&◌, sym, ap, ◌∙◌, arith}
use Rattle.std.proofs.lemmas.List.{length-take-le}
use Rattle.dns_message.specs.Message.{message_of}
use Rattle.dns_message.specs.Octets.{fits, without_additional}
use Rattle.dns_message.proofs.OctetsLemmas.{sent, sent_whole, fit_whole, fit_shorter, no_shorter, fit_cut}
use Rattle.dns_message.proofs.write.write_reply_by.Goals as goal
use Rattle.dns_message.proofs.write.write_reply_by.Goals.{then-may_be_shorter+in_default-put_message, else-may_be_shorter}

pub returns-in-Some-clause-octets : goal.returns-in-Some-clause-octets
returns-in-Some-clause-octets c =
    let size = length-take-le c.min.result c.args.out.now (omega arith) in
    sent _ _ _ _ _ c.in-Some.ensures ∙ sym (fit_whole (message_of c.args.reply.now) _ _ _ _ _ c.min.ensures size c.in-Some.ensures)

pub returns-in-Some-clause-whole : goal.returns-in-Some-clause-whole
returns-in-Some-clause-whole c = λ all. sent_whole _ _ _ _ _ (omega arith) c.in-Some.ensures

pub returns-in-Some-put_message-clause-octets : goal.returns-in-Some-put_message-clause-octets
returns-in-Some-put_message-clause-octets c =
    let size = length-take-le c.min.result c.args.out.now (omega arith) in
    sent _ _ _ _ _ c.in-Some-put_message.ensures ∙ sym (fit_shorter (message_of c.args.reply.now) _ _ _ _ _ _ c.min.ensures size (c.put_message.auto.out ∙ size) c.if-may_be_shorter.true c.in_default.ensures c.in-Some-put_message.ensures)

pub returns-clause-octets : goal.returns-clause-octets
returns-clause-octets c =
    let size = length-take-le c.min.result c.args.out.now (omega arith) in
    let m = message_of c.args.reply.now in
    sent _ _ _ _ _ c.put_truncated.ensures ∙ sym (fit_cut m _ _ _ _ c.min.ensures size c.in_default.ensures (elim c.if-may_be_shorter.branch [ then-may_be_shorter+in_default-put_message w ↦ no_shorter m _ _ _ _ c.min.ensures (c.put_message.auto.out ∙ size) w.in_default-put_message.ensures | else-may_be_shorter w ↦ ap (λ (b : Bool). not b && fits (without_additional m) c.args.limit) w.if-may_be_shorter.false ]))
