use Rattle.std.proofs.Common.{◌≡◌, ◌++◌, flat_map, drop, string_bytes}
use Rattle.change_command.specs.ChangeText.{signed_line}
use Rattle.change_command.proofs.lines.put_sets.Given as goal

-- what is written, with what is left, is all
abbrev pub invariant-loop-set : goal.invariant-loop-set
invariant-loop-set l =
    string_bytes l.text ++ flat_map (flat_map (signed_line l.sign)) (drop l.set-index l.sets) ≡ string_bytes l.initial.text ++ flat_map (flat_map (signed_line l.sign)) l.sets
