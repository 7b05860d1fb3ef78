-- The place behind a message is that behind the records that it has.
use Rattle.std.proofs.Common.{◌∙◌, sym, ap, drop}
use Rattle.transfer_core.specs.Places.{left_at}
use Rattle.zone_replies.proofs.GoingLemmas.{from_list, from_place}
use Rattle.zone_replies.proofs.transfer.write_from.Goals as goal

pub returns-in_err-len-clause-message : goal.returns-in_err-len-clause-message
returns-in_err-len-clause-message c =
    let versions = c.args.chain.now.versions in
    let here = c.records_at-list.ensures ∙ ap (λ z. left_at z versions c.args.place.now) c.zone-zone.ensures in
    rw c.from_residual.ensures (from_list c.args.version.now.zone versions c.args.query.now c.args.is_begun c.args.place.now _ _ _ c.question_left-question.ensures c.reply_opt-opt.ensures here ∙ c.in_err-len.ensures.message)

pub returns-clause-message : goal.returns-clause-message
returns-clause-message c =
    let versions = c.args.chain.now.versions in
    let zone = c.zone-zone.ensures in
    let here = c.records_at-list.ensures ∙ ap (λ z. left_at z versions c.args.place.now) zone in
    let behind = ap (λ z. left_at z versions c.behind.result) (sym zone) ∙ c.behind.ensures ∙ ap (λ z. drop c.in_ok-len.count (left_at z versions c.args.place.now)) zone in
    from_place c.args.version.now.zone versions c.args.query.now c.args.is_begun c.args.place.now c.behind.result _ _ _ _ _ c.question_left-question.ensures c.reply_opt-opt.ensures here c.in_ok-len.ensures.message behind
