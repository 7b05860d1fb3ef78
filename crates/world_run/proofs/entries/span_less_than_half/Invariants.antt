use Rattle.std.proofs.Common.{◌≡◌, ◌<◌, ◌+◌, ◌^◌, ◌++◌, ◌∷◌, [], drop}
use Rattle.transfer_core.specs.Window.{span}
use Rattle.world_run.specs.Entries.{serials_in, span_of}
use Rattle.world_run.proofs.entries.span_less_than_half.Given as goal

-- with the way from here on, it is the whole way
abbrev pub invariant-loop-entry : goal.invariant-loop-entry
invariant-loop-entry l =
    (l.sum < 2 ^ 31) × (l.sum + span l.last.0 (serials_in (drop l.entry-index l.others) ++ l.serial.0 ∷ []) ≡ span_of (serials_in l.entries ++ l.serial.0 ∷ []))
