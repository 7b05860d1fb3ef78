-- A request is received as one without a TSIG.
use Rattle.std.proofs.Common.{arith, rules, ◌≡◌, false, sym, ap}
use Rattle.dns_message.specs.Reads.{is_reply}
use Rattle.std.proofs.lemmas.Bool.Decides.{nat_tests}
use Rattle.tsig.proofs.NoRecords.{unsigned_at_once}
use Rattle.signed_replies.proofs.BareLemmas.{received_bare}
use Rattle.signed_replies.proofs.bare.has_no_tsig.Goals as goal

pub returns-then-has_no_records : goal.returns-then-has_no_records
returns-then-has_no_records c keys now =
    let asks : is_reply c.args.request.now ≡ false = grind (arith, nat_tests) in
    received_bare keys now c.args.request.now c.requires asks (unsigned_at_once keys now c.args.request.now c.if-has_no_records.ensures.answer c.if-has_no_records.ensures.authority c.if-has_no_records.ensures.additional)

pub returns : goal.returns
returns c keys now =
    let asks : is_reply c.args.request.now ≡ false = grind (arith, nat_tests) in
    received_bare keys now c.args.request.now c.requires asks (c.if-not-has_one_opt.ensures keys now)
