use Rattle.std.proofs.Common.{take, string_bytes}
use Rattle.store_recovery.proofs.ReplayLemmas.{now_of}
use Rattle.stored_changes.proofs.WalkLemmas.{IsWalked}
use Rattle.stored_changes.proofs.walk.walk.Given as goal

abbrev pub invariant-loop-place : goal.invariant-loop-place
invariant-loop-place l = IsWalked l.fn.zone (take l.place (now_of l.requests)) l.last (string_bytes l.reported)
