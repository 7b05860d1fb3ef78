-- What is told is what is written.
use Rattle.std.proofs.Common.{subst}
use Rattle.std.specs.Prelude.{take}
use Rattle.zone_replies.specs.State.{HandlerState}
use Rattle.zone_replies.specs.PendingUpdates.{IsWritten}
use Rattle.zone_replies.proofs.PendingRepliedLemmas.{told_written}
use Rattle.zone_replies.proofs.connection_handler.ConnectionHandler.reply_done.Goals as goal

pub returns-clause-octets : goal.returns-clause-octets
returns-clause-octets g c =
    subst (λ (s : HandlerState). IsWritten s.peer c.args.place c.args.done (take c.write_done.result c.write_done.new.out)) c.self.view_is
    (told_written c.self.inside.peer c.args.place c.args.done c.outcome_at-outcome.result (take c.write_done.result c.write_done.new.out) c.outcome_at-outcome.ensures c.write_done.ensures.octets)
