use Rattle.std.proofs.Common.{None}
use Rattle.dns_message.specs.Message.{message_of}
use Rattle.dns_message.specs.Encoding.{these, before, each}
use Rattle.dns_message.specs.Octets.{questions, question_octets, record_octets, sections_octets}
use Rattle.dns_message.specs.Opt.{opt_part}
use Rattle.dns_message.proofs.EncodedLemmas.{WritesEncoding-these, WritesEncoding-then, WritesEncoding-stop}
use Rattle.dns_message.proofs.TrueLemmas.{lawful}
use Rattle.dns_message.proofs.write.put_sections.Goals as goal

pub returns-in_err-at : goal.returns-in_err-at
unfolding sections_octets
returns-in_err-at c =
    let m = message_of c.args.reply.now in
    let asked = each question_octets (questions m.question) in
    let rest = before (each record_octets m.answer) (before (each record_octets m.authority) (before (each record_octets m.additional) (these (opt_part m.rcode m.opt)))) in
    let new = c.put_questions.new in
    rw c.from_residual.ensures (WritesEncoding-stop asked rest c.args.out.now new.out c.args.at c.args.names.now new.names new.names c.in_err-at.ensures.put)

pub returns-in_err-at-2 : goal.returns-in_err-at-2
unfolding sections_octets
returns-in_err-at-2 c =
    let m = message_of c.args.reply.now in
    let asked = each question_octets (questions m.question) in
    let answer = each record_octets m.answer in
    let rest = before (each record_octets m.authority) (before (each record_octets m.additional) (these (opt_part m.rcode m.opt))) in
    let first = c.put_questions.new in
    let new = c.put_section.new in
    let stops = WritesEncoding-stop answer rest first.out new.out c.in_ok-at.at first.names new.names new.names c.in_err-at-2.ensures in
    rw c.from_residual-in_err-at-2.ensures (WritesEncoding-then asked (before answer rest) c.args.out.now first.out new.out c.args.at c.in_ok-at.at c.args.names.now first.names new.names None c.in_ok-at.ensures.put stops)

pub returns-in_err-at-3 : goal.returns-in_err-at-3
unfolding sections_octets
returns-in_err-at-3 c =
    let m = message_of c.args.reply.now in
    let asked = each question_octets (questions m.question) in
    let answer = each record_octets m.answer in
    let authority = each record_octets m.authority in
    let rest = before (each record_octets m.additional) (these (opt_part m.rcode m.opt)) in
    let first = c.put_questions.new in
    let second = c.put_section.new in
    let new = c.put_section-2.new in
    let stops = WritesEncoding-stop authority rest second.out new.out c.in_ok-at-2.at second.names new.names new.names c.in_err-at-3.ensures in
    let more = WritesEncoding-then answer (before authority rest) first.out second.out new.out c.in_ok-at.at c.in_ok-at-2.at first.names second.names new.names None c.in_ok-at-2.ensures stops in
    rw c.from_residual-in_err-at-3.ensures (WritesEncoding-then asked (before answer (before authority rest)) c.args.out.now first.out new.out c.args.at c.in_ok-at.at c.args.names.now first.names new.names None c.in_ok-at.ensures.put more)

pub returns-in_err-at-4 : goal.returns-in_err-at-4
unfolding sections_octets
returns-in_err-at-4 c =
    let m = message_of c.args.reply.now in
    let asked = each question_octets (questions m.question) in
    let answer = each record_octets m.answer in
    let authority = each record_octets m.authority in
    let additional = each record_octets m.additional in
    let opt = these (opt_part m.rcode m.opt) in
    let rest = before additional opt in
    let first = c.put_questions.new in
    let second = c.put_section.new in
    let third = c.put_section-2.new in
    let new = c.put_section-3.new in
    let stops = WritesEncoding-stop additional opt third.out new.out c.in_ok-at-3.at third.names new.names new.names c.in_err-at-4.ensures in
    let last = WritesEncoding-then authority rest second.out third.out new.out c.in_ok-at-2.at c.in_ok-at-3.at second.names third.names new.names None c.in_ok-at-3.ensures stops in
    let more = WritesEncoding-then answer (before authority rest) first.out second.out new.out c.in_ok-at.at c.in_ok-at-2.at first.names second.names new.names None c.in_ok-at-2.ensures last in
    rw c.from_residual-in_err-at-4.ensures (WritesEncoding-then asked (before answer (before authority rest)) c.args.out.now first.out new.out c.args.at c.in_ok-at.at c.args.names.now first.names new.names None c.in_ok-at.ensures.put more)

pub returns : goal.returns
unfolding sections_octets
returns c =
    let m = message_of c.args.reply.now in
    let asked = each question_octets (questions m.question) in
    let answer = each record_octets m.answer in
    let authority = each record_octets m.authority in
    let additional = each record_octets m.additional in
    let opt = these (opt_part m.rcode m.opt) in
    let rest = before additional opt in
    let first = c.put_questions.new in
    let second = c.put_section.new in
    let third = c.put_section-2.new in
    let fourth = c.put_section-3.new in
    let new = c.put_opt.new.out in
    let result = c.put_opt.result in
    let end = WritesEncoding-these (opt_part m.rcode m.opt) fourth.out new c.in_ok-at-4.at fourth.names result (lawful c.in_ok-at-4.ensures) c.put_opt.ensures in
    let with_opt = WritesEncoding-then additional opt third.out fourth.out new c.in_ok-at-3.at c.in_ok-at-4.at third.names fourth.names fourth.names result c.in_ok-at-4.ensures end in
    let last = WritesEncoding-then authority rest second.out third.out new c.in_ok-at-2.at c.in_ok-at-3.at second.names third.names fourth.names result c.in_ok-at-3.ensures with_opt in
    let more = WritesEncoding-then answer (before authority rest) first.out second.out new c.in_ok-at.at c.in_ok-at-2.at first.names second.names fourth.names result c.in_ok-at-2.ensures last in
    WritesEncoding-then asked (before answer (before authority rest)) c.args.out.now first.out new c.args.at c.in_ok-at.at c.args.names.now first.names fourth.names result c.in_ok-at.ensures.put more
