-- The connections under the keys so far are told.
use Rattle.std.proofs.Common.{take, is_some}
use Rattle.std.specs.List.{count_by}
use Rattle.tcp_connections.specs.Survey.{IsSurvey}
use Rattle.tcp_connections.specs.Places.{is_of}
use Rattle.tcp_connections.proofs.crowds.candidates.Given as goal

abbrev pub invariant-loop-key : goal.invariant-loop-key
invariant-loop-key g l = IsSurvey (count_by is_some (take l.key l.connections.slots)) (λ group. count_by (is_of group) (take l.key l.connections.slots)) l.survey
