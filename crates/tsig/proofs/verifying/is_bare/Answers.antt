use Rattle.std.proofs.Common.{sym, ap, ◌∙◌}
use Rattle.dns_message.specs.Message.{number_at}
use Rattle.tsig.proofs.NoRecords.{unsigned_at_once}
use Rattle.tsig.proofs.verifying.is_bare.Goals as goal

pub returns-then-has_no_records : goal.returns-then-has_no_records
returns-then-has_no_records c keys now =
    let same = sym c.octets.ensures in
    unsigned_at_once keys now c.args.octets.now (ap (λ m. number_at m 6) same ∙ c.if-has_no_records.ensures.answer) (ap (λ m. number_at m 8) same ∙ c.if-has_no_records.ensures.authority) (ap (λ m. number_at m 10) same ∙ c.if-has_no_records.ensures.additional)
