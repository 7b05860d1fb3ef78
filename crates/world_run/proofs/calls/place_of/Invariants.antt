use Rattle.std.proofs.Common.{◌≡◌, ◌+◌, drop, bytes_eq}
use Rattle.std.specs.List.{position_or_len}
use Rattle.world_run.specs.declared.calls.UnderWay.{UnderWay}
use Rattle.world_run.proofs.calls.place_of.Given as goal

-- none of those before is the call
abbrev pub invariant-loop-at : goal.invariant-loop-at
invariant-loop-at l =
    position_or_len (λ (call : UnderWay). bytes_eq call.name l.name) l.calls ≡ l.at + position_or_len (λ (call : UnderWay). bytes_eq call.name l.name) (drop l.at l.calls)
