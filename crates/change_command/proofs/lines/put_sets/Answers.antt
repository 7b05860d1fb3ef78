use Rattle.std.proofs.Common.{◌≡◌, [], ◌++◌, flat_map, drop, string_bytes, sym, ap, ◌∙◌}
use Rattle.std.proofs.lemmas.List.{append-nil, drop_all}
use Rattle.change_command.specs.ChangeText.{signed_line}
use Rattle.change_command.proofs.LineLemmas.{lines_of_sets}
use Rattle.change_command.proofs.lines.put_sets.Goals as goal

pub returns : goal.returns
returns c =
    let f = signed_line c.args.sign.now in
    let left : flat_map (flat_map f) (drop c.loop-set.set-index c.args.sets.now) ≡ [] = ap (flat_map (flat_map f)) (drop_all c.loop-set.set-index c.args.sets.now c.loop-set-test.false) in
    sym (ap (λ os. string_bytes c.loop-set.text ++ os) left ∙ append-nil (string_bytes c.loop-set.text))
    ∙ c.loop-set.invariant ∙ ap (λ os. string_bytes c.args.text.now ++ os) (lines_of_sets c.args.sign.now c.args.sets.now)
