use Rattle.std.proofs.Common.{sym, ap, ◌∙◌, option_map}
use Rattle.dns_message.proofs.ReadLemmas.{behind_question, behind_answer, behind_authority, seen_question, seen_answer, seen_authority, seen_additional, seen_none}
use Rattle.dns_message.proofs.read.seen_into.Goals as goal

pub returns-then-count_at-ne1 : goal.returns-then-count_at-ne1
returns-then-count_at-ne1 c = sym (seen_none _ _ c.count_at.ensures c.if-count_at-ne1.true)

pub returns-in_err-place : goal.returns-in_err-place
returns-in_err-place c =
    ap (option_map _) c.from_residual.ensures
    ∙ sym (seen_question _ _ _ c.count_at.ensures c.if-count_at-ne1.false c.question_into.ensures ∙ ap (λ o. behind_question c.args.octets.now (option_map (λ next. (c.question_into.new.question, next)) o)) c.in_err-place.was)

pub returns-in_err-at : goal.returns-in_err-at
returns-in_err-at c =
    let answer = seen_answer _ _ _ _ c.question_into.new.question _ _ c.count_at.ensures c.if-count_at-ne1.false c.question_into.ensures (ap (option_map (λ next. (c.question_into.new.question, next))) c.in_ok-place.was) c.count_at-2.ensures c.behind_records.ensures in
    ap (option_map _) c.from_residual-in_err-at.ensures ∙ sym (answer ∙ ap (behind_answer c.args.octets.now c.question_into.new.question) c.in_err-at.was)

pub returns-in_err-serial : goal.returns-in_err-serial
returns-in_err-serial c =
    let answer = seen_answer _ _ _ _ c.question_into.new.question _ _ c.count_at.ensures c.if-count_at-ne1.false c.question_into.ensures (ap (option_map (λ next. (c.question_into.new.question, next))) c.in_ok-place.was) c.count_at-2.ensures c.behind_records.ensures in
    let authority = seen_authority _ _ _ _ _ _ answer c.in_ok-at.was c.count_at-3.ensures c.authority_at.ensures in
    ap (option_map _) c.from_residual-in_err-serial.ensures ∙ sym (authority ∙ ap (behind_authority c.args.octets.now c.question_into.new.question) c.in_err-serial.was)

pub returns : goal.returns
returns c =
    let answer = seen_answer _ _ _ _ c.question_into.new.question _ _ c.count_at.ensures c.if-count_at-ne1.false c.question_into.ensures (ap (option_map (λ next. (c.question_into.new.question, next))) c.in_ok-place.was) c.count_at-2.ensures c.behind_records.ensures in
    let authority = seen_authority _ _ _ _ _ _ answer c.in_ok-at.was c.count_at-3.ensures c.authority_at.ensures in
    sym (seen_additional _ _ _ _ _ _ _ authority c.in_ok-serial.was c.count_at-4.ensures c.opt_at.ensures)
