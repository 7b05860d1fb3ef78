use Rattle.std.proofs.Common.{◌≡◌, false, take, bytes_eq}
use Rattle.std.specs.Cmp.Lexicographic.{pointwise}
use Rattle.std.specs.List.{list_any}
use Rattle.lookup_core.proofs.aliases.is_among.Given as goal

-- none of the names seen so far is the one
abbrev pub invariant-loop-other : goal.invariant-loop-other
invariant-loop-other l = list_any (λ other. pointwise bytes_eq other l.name) (take l.other-index l.names) ≡ false
