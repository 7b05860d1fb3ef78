-- Each step takes one entry out.
use Rattle.std.proofs.Common.{vec_len}
use Rattle.zone_replies.proofs.pending_updates.PendingUpdates.leave_all.Given as goal

abbrev pub decreases-loop-entry : goal.decreases-loop-entry
decreases-loop-entry g l = vec_len l.entries
