-- The one record is an OPT.
use Rattle.signed_replies.proofs.BareLemmas.{opt_alone}
use Rattle.signed_replies.proofs.bare.has_one_opt.Goals as goal

pub returns : goal.returns
returns c keys now =
    opt_alone keys now c.args.msg.now c.in-Some.next c.if-not-has_one_record.ensures.question c.if-not-has_one_record.ensures.answer c.if-not-has_one_record.ensures.authority c.if-not-has_one_record.ensures.additional
    c.in-Some.ensures.name c.if-not-is_opt.ensures
