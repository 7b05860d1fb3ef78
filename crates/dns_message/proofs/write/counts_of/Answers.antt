use Rattle.std.proofs.Common.{arith}
use Rattle.dns_message.specs.Message.{message_of}
use Rattle.dns_message.proofs.OctetsLemmas.{sections_fill}
use Rattle.dns_message.proofs.write.counts_of.Goals as goal

pub returns-in_err-count_section : goal.returns-in_err-count_section
returns-in_err-count_section c =
    rw c.from_residual.ensures (omega (arith, (sections_fill (message_of c.args.reply.now)).answer, c.in_err-count_section.ensures))

pub returns-in_err-count_section-2 : goal.returns-in_err-count_section-2
returns-in_err-count_section-2 c =
    rw c.from_residual-in_err-count_section-2.ensures (omega (arith, (sections_fill (message_of c.args.reply.now)).authority, c.in_err-count_section-2.ensures))

pub returns-in_err-count_additional : goal.returns-in_err-count_additional
returns-in_err-count_additional c =
    rw c.from_residual-in_err-count_additional.ensures (omega (arith, (sections_fill (message_of c.args.reply.now)).additional, c.in_err-count_additional.ensures))
