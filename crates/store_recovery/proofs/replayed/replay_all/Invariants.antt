use Rattle.std.proofs.Common.{take}
use Rattle.store_recovery.specs.Replay.{IsReplayed}
use Rattle.store_recovery.proofs.ReplayLemmas.{now_of}
use Rattle.store_recovery.proofs.replayed.replay_all.Given as goal

abbrev pub invariant-loop-place : goal.invariant-loop-place
invariant-loop-place l = IsReplayed l.fn.zone (take l.place (now_of l.requests)) l.newest
