use Rattle.std.proofs.Common.{◌≡◌, drop}
use Rattle.std.specs.List.{list_any}
use Rattle.world_run.specs.Phases.{reserves}
use Rattle.world_run.specs.declared.calls.UnderWay.{UnderWay}
use Rattle.world_run.proofs.calls.is_reserved.Given as goal

-- none of those before here is
abbrev pub invariant-loop-call : goal.invariant-loop-call
invariant-loop-call l =
    list_any (λ (call : UnderWay). reserves l.name call.phase) l.calls ≡ list_any (λ (call : UnderWay). reserves l.name call.phase) (drop l.call-index l.calls)
