use Rattle.std.proofs.Common.{◌≡◌, ◌+◌, length, drop}
use Rattle.std.specs.List.{flat_map}
use Rattle.dns_message.proofs.count.count_shown.Given as goal

abbrev pub invariant-loop-set : goal.invariant-loop-set
invariant-loop-set l =
    l.count + length (flat_map (λ set. set) (drop l.set-index l.set-items)) ≡ length (flat_map (λ set. set) l.set-items)
