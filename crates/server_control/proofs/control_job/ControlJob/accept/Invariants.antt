-- Clients have been accepted so far.
use Rattle.std.proofs.Common.{◌≡◌}
use Rattle.server_control.proofs.control_job.ControlJob.accept.Given as goal

abbrev pub invariant-loop-room : goal.invariant-loop-room
invariant-loop-room g l = l.self.number ≡ l.initial.self.number
