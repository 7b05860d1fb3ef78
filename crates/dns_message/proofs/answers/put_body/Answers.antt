use Rattle.std.proofs.Common.{ℕ, List, ◌-◌, length, take, Option, Some, refl, ◌∙◌, arith, subst}
use Rattle.std.specs.Option.{option_copied}
use Rattle.std.proofs.lemmas.List.{length-take-le}
use Rattle.dns_rdata.specs.declared.numbers.Rcode.TheVariants.{NoError}
use Rattle.wire_names.specs.Entry.{Entry}
use Rattle.dns_message.specs.Encoding.{each}
use Rattle.dns_message.specs.Encoded.{WritesEncoding}
use Rattle.dns_message.specs.Octets.{questions, question_octets}
use Rattle.dns_message.proofs.AnswersLemmas.{opt_short, put_some, body_put}
use Rattle.dns_message.proofs.answers.put_body.Goals as goal

pub overflow_sub-room : goal.overflow_sub-room
overflow_sub-room g c =
    let size = c.opt_size.ensures NoError in
    let short = opt_short c.args.opt in
    omega arith

pub put_questions-requires-clause-within : goal.put_questions-requires-clause-within
put_questions-requires-clause-within g c =
    let size = c.opt_size.ensures NoError in
    let short = opt_short c.args.opt in
    let room = length-take-le (length c.args.out.now - c.opt_size.result) c.args.out.now (omega arith) in
    omega arith

pub unwrap-start-requires : goal.unwrap-start-requires
unwrap-start-requires g c =
    let size = c.opt_size.ensures NoError in
    let short = opt_short c.args.opt in
    let room = length-take-le (length c.args.out.now - c.opt_size.result) c.args.out.now (omega arith) in
    let asked = c.put_questions.ensures.short in
    put_some (each question_octets (questions (option_copied c.args.question))) (take (length c.args.out.now - c.opt_size.result) c.args.out.now) c.put_questions.new.out 12 c.new-names.result c.put_questions.new.names c.put_questions.result c.put_questions.ensures.put (omega arith)

pub returns : goal.returns
returns g c =
    let question = option_copied c.args.question in
    let asked = each question_octets (questions question) in
    let old = c.args.out.now in
    let room = length old - c.opt_size.result in
    let size = c.opt_size.ensures NoError in
    let short = opt_short c.args.opt in
    let whole = length-take-le room old (omega arith) in
    let put = subst (λ (r : Option ℕ). WritesEncoding asked (take room old) c.put_questions.new.out 12 c.new-names.result c.put_questions.new.names r) c.unwrap-start.ensures c.put_questions.ensures.put in
    let asked_put = subst (λ (names : List Entry). WritesEncoding asked (take room old) c.put_questions.new.out 12 names c.put_questions.new.names (Some c.unwrap-start.result)) c.new-names.ensures put in
    body_put question c.args.opt _ _ old c.put_questions.new.out c.put_answers.new.out _ _ _ _ c.opt_size.result room size refl (omega arith) (c.put_answers.auto.out ∙ c.put_questions.auto.out ∙ whole) asked_put c.put_answers.ensures
