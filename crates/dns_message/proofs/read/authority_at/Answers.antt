use Rattle.std.proofs.Common.{sym, ◌∙◌}
use Rattle.dns_message.proofs.ReadLemmas.{held_unasked, held_of_many, held_of_one}
use Rattle.dns_message.proofs.read.authority_at.Goals as goal

pub returns-then-ne : goal.returns-then-ne
returns-then-ne c = sym (held_unasked c.args.octets.now c.args.question.now _ _ (sym c.ne.ensures ∙ c.if-ne.true) (sym c.behind_records.ensures ∙ c.in_ok-next.was))

pub returns-then-count-ne1 : goal.returns-then-count-ne1
returns-then-count-ne1 c = sym (held_of_many c.args.octets.now c.args.question.now c.args.count c.args.at _ c.if-count-ne1.true (sym c.behind_records.ensures ∙ c.in_ok-next.was))

pub returns : goal.returns
returns c = sym (held_of_one c.args.octets.now c.args.question.now c.args.count c.args.at _ _ (sym c.ne.ensures ∙ c.if-ne.false) c.if-count-ne1.false (sym c.behind_records.ensures ∙ c.in_ok-next.was) c.serial_of_first.ensures)
