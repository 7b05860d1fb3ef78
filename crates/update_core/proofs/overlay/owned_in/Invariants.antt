use Rattle.std.proofs.Common.{◌≡◌, ◌++◌}
use Rattle.update_core.proofs.overlay.owned_in.Given as goal

-- the owners so far, with their sets, and those that are left
abbrev pub invariant-loop-owner : goal.invariant-loop-owner
invariant-loop-owner l = record { all : l.owned.items ++ l.owner-iterator ≡ l.fn.others.entries; last : l.last ≡ l.fn.last }
