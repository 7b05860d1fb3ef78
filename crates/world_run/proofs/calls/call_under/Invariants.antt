use Rattle.std.proofs.Common.{◌≡◌, drop}
use Rattle.world_run.specs.World.{call_of}
use Rattle.world_run.proofs.calls.call_under.Given as goal

-- the call is one of those from here on
abbrev pub invariant-loop-call : goal.invariant-loop-call
invariant-loop-call l =
    call_of l.name l.calls ≡ call_of l.name (drop l.call-index l.calls)
