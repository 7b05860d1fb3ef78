use Rattle.dns_message.proofs.ReceivedLemmas.{questions_seen, questions_unseen, records_seen, records_unseen, no_questions, no_answer, no_authority, no_additional, whole}
use Rattle.dns_message.proofs.received.answer_at.Goals as goal

pub returns-in_err-answer : goal.returns-in_err-answer
returns-in_err-answer c =
    rw c.from_residual.ensures
    (no_questions c.args.octets.now (questions_unseen c.args.octets.now _ _ c.count_at.ensures c.behind_questions.ensures c.in_err-answer.was))

pub returns-in_err-authority : goal.returns-in_err-authority
returns-in_err-authority c =
    let questions = questions_seen c.args.octets.now _ _ _ c.count_at.ensures c.behind_questions.ensures c.in_ok-answer.was in
    rw c.from_residual-in_err-authority.ensures
    (no_answer c.args.octets.now questions.0 _ questions.1
    (records_unseen c.args.octets.now _ _ _ _ c.count_at-2.ensures c.behind_records.ensures c.in_err-authority.was))

pub returns-in_err-additional : goal.returns-in_err-additional
returns-in_err-additional c =
    let questions = questions_seen c.args.octets.now _ _ _ c.count_at.ensures c.behind_questions.ensures c.in_ok-answer.was in
    let answer = records_seen c.args.octets.now _ _ _ _ _ c.count_at-2.ensures c.behind_records.ensures c.in_ok-authority.was in
    rw c.from_residual-in_err-additional.ensures
    (no_authority c.args.octets.now questions.0 _ questions.1 answer.0 _ answer.1
    (records_unseen c.args.octets.now _ _ _ _ c.count_at-3.ensures c.behind_records-2.ensures c.in_err-additional.was))

pub returns-in_err-behind_records : goal.returns-in_err-behind_records
returns-in_err-behind_records c =
    let questions = questions_seen c.args.octets.now _ _ _ c.count_at.ensures c.behind_questions.ensures c.in_ok-answer.was in
    let answer = records_seen c.args.octets.now _ _ _ _ _ c.count_at-2.ensures c.behind_records.ensures c.in_ok-authority.was in
    let authority = records_seen c.args.octets.now _ _ _ _ _ c.count_at-3.ensures c.behind_records-2.ensures c.in_ok-additional.was in
    rw c.from_residual-in_err-behind_records.ensures
    (no_additional c.args.octets.now questions.0 _ questions.1 answer.0 _ answer.1 authority.0 _ authority.1
    (records_unseen c.args.octets.now _ _ _ _ c.count_at-4.ensures c.behind_records-3.ensures c.in_err-behind_records.was))

pub returns : goal.returns
returns c =
    let questions = questions_seen c.args.octets.now _ _ _ c.count_at.ensures c.behind_questions.ensures c.in_ok-answer.was in
    let answer = records_seen c.args.octets.now _ _ _ _ _ c.count_at-2.ensures c.behind_records.ensures c.in_ok-authority.was in
    let authority = records_seen c.args.octets.now _ _ _ _ _ c.count_at-3.ensures c.behind_records-2.ensures c.in_ok-additional.was in
    let additional = records_seen c.args.octets.now _ _ _ _ _ c.count_at-4.ensures c.behind_records-3.ensures c.in_ok-behind_records.was in
    whole c.args.octets.now questions.0 _ questions.1 answer.0 _ answer.1 authority.0 _ authority.1 additional.0 _ additional.1
