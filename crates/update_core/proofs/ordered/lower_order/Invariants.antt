use Rattle.std.proofs.Common.{◌≡◌, length, map}
use Rattle.std.specs.Char.{to_ascii_lowercase}
use Rattle.std.specs.Cmp.Lexicographic.{slice_cmp}
use Rattle.std.specs.Ordering.{nat_cmp}
use Rattle.update_core.proofs.ordered.lower_order.Given as goal

-- the octets that are left stand to each other as all of them
abbrev pub invariant-loop-some : goal.invariant-loop-some
invariant-loop-some l = slice_cmp nat_cmp (map to_ascii_lowercase l.own) (map to_ascii_lowercase l.other) ≡ slice_cmp nat_cmp (map to_ascii_lowercase l.rest) (map to_ascii_lowercase l.others)

abbrev pub decreases-loop-some : goal.decreases-loop-some
decreases-loop-some l = length l.rest
