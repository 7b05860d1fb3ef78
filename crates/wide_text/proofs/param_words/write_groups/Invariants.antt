use Rattle.std.proofs.Common.{ℕ, ◌≡◌, ◌∷◌, ◌++◌, drop, flat_map, string_bytes}
use Rattle.record_text.specs.Text.{group_text, groups_text}
use Rattle.wide_text.proofs.param_words.write_groups.Given as goal

abbrev pub invariant-loop-group : goal.invariant-loop-group
invariant-loop-group l = string_bytes l.text ++ flat_map (λ (next : ℕ). 58 ∷ group_text next) (drop l.group-index l.others) ≡ string_bytes l.fn.text ++ groups_text l.fn.groups
