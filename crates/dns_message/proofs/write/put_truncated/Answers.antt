use Rattle.std.proofs.Common.{List, ℕ, Option, Some, rules, subst}
use Rattle.wire_names.specs.Written.{IsOverwritten}
use Rattle.wire_names.specs.Entry.{Entry}
use Rattle.dns_message.specs.Message.{message_of}
use Rattle.dns_message.specs.Encoding.{each}
use Rattle.dns_message.specs.Encoded.{WritesParts, WritesEncoding}
use Rattle.dns_message.specs.Octets.{questions, question_octets, header_octets, counts_in, truncated}
use Rattle.dns_message.specs.Opt.{opt_part}
use Rattle.dns_message.proofs.OctetsLemmas.{truncated_put}
use Rattle.dns_message.proofs.write.put_truncated.Goals as goal

pub returns : goal.returns
returns c =
    let m = message_of c.args.reply.now in
    let at = c.unwrap-at.result in
    let next = c.unwrap-next.result in
    let front : IsOverwritten c.args.out.now c.put_header.new.out 0 (header_octets (truncated m) (counts_in (truncated m))) at = search rules in
    let asked = each question_octets (questions m.question) in
    let put = subst (λ (r : Option ℕ). WritesEncoding asked c.put_header.new.out c.put_questions.new.out at c.reset.new.self c.put_questions.new.names r) c.unwrap-next.ensures c.put_questions.ensures.put in
    let middle = subst (λ (names : List Entry). WritesEncoding asked c.put_header.new.out c.put_questions.new.out at names c.put_questions.new.names (Some next)) c.reset.ensures put in
    let back = subst (λ (r : Option ℕ). WritesParts c.put_questions.new.out c.put_opt.new.out next (opt_part m.rcode m.opt) r) c.unwrap.ensures c.put_opt.ensures in
    truncated_put m _ _ _ _ _ _ _ _ front middle back
