-- Each step abandons one ticket.
use Rattle.std.proofs.Common.{vec_len}
use Rattle.zone_replies.proofs.pending_updates.leave_each.Given as goal

abbrev pub decreases-loop-ticket : goal.decreases-loop-ticket
decreases-loop-ticket g l = vec_len l.left
