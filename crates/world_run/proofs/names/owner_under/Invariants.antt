use Rattle.std.proofs.Common.{◌≡◌, drop}
use Rattle.world_run.specs.World.{owner_of}
use Rattle.world_run.proofs.names.owner_under.Given as goal

-- the name is one of those from here on
abbrev pub invariant-loop-named : goal.invariant-loop-named
invariant-loop-named l =
    owner_of l.name l.names ≡ owner_of l.name (drop l.named-index l.names)
