use Rattle.std.proofs.Common.{ap, sym, ◌∙◌, true}
use Rattle.dns_message.specs.Octets.{fit}
use Rattle.serve_core.specs.declared.transport.Transport.TheVariants.{Udp}
use Rattle.serve_core.specs.Transfers.{peer_over, reply_to_peer}
use Rattle.serve_core.specs.Transport.{limit_of}
use Rattle.world_run.specs.declared.start.Start.TheVariants.{Answers}
use Rattle.world_run.specs.declared.step.Answer.TheVariants.{Reply}
use Rattle.world_run.proofs.asked.answer_query.Goals as goal

pub returns-in-Ok-clause-ok : goal.returns-in-Ok-clause-ok
returns-in-Ok-clause-ok c =
    rw (sym c.is_sent.ensures ∙ c.if-is_sent.false)
    (ap Answers
    (c.in-Ok.ensures.ok ∙ ap Reply
    (c.respond_to-len.ensures.octets ∙ ap (λ zone. fit (reply_to_peer zone (peer_over Udp true) c.args.query.now) (limit_of Udp c.args.query.now.edns)) c.zone.ensures)))
