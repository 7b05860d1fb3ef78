use Rattle.std.proofs.Common.{◌≡◌, drop, bytes_eq}
use Rattle.std.specs.List.{list_any}
use Rattle.world_run.specs.declared.names.Named.{Named}
use Rattle.world_run.proofs.names.is_in_use.Given as goal

-- none of those before here is
abbrev pub invariant-loop-named : goal.invariant-loop-named
invariant-loop-named l =
    list_any (λ (named : Named). bytes_eq named.name l.name) l.names ≡ list_any (λ (named : Named). bytes_eq named.name l.name) (drop l.named-index l.names)
