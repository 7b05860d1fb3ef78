use Rattle.std.proofs.Common.{Some, None, subst}
use Rattle.dns_message.specs.Octets.{fit}
use Rattle.update_core.specs.Applied.{code_told}
use Rattle.serve_core.specs.declared.heading.Heading.{Heading}
use Rattle.serve_core.specs.Heading.{coded}
use Rattle.serve_core.specs.Served.{StandsIn}
use Rattle.serve_core.specs.Transport.{limit_of}
use Rattle.serve_core.proofs.ServedLemmas.{serves_update}
use Rattle.serve_core.proofs.served.respond_to_update.Goals as goal

pub returns-clause-served : goal.returns-clause-served
returns-clause-served c = serves_update c.reply_of.result c.args.transport c.args.may c.args.version.now c.args.update.now c.reply_of.new.out c.apply-outcome.result c.apply-outcome.ensures.reported (subst (λ (h : Heading). StandsIn c.reply_of.result.len (limit_of c.args.transport None) c.reply_of.new.out (Some (fit (coded h (code_told c.apply-outcome.result)) (limit_of c.args.transport None)))) c.of_update.ensures c.reply_of.ensures.reply) c.reply_of.ensures.next
