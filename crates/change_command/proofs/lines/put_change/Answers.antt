use Rattle.std.proofs.Common.{◌++◌, codes, flat_map, string_bytes, ap, ◌∙◌}
use Rattle.zone_tree.specs.Sets.{records_in}
use Rattle.change_command.specs.ChangeText.{signed_line}
use Rattle.change_command.proofs.LineLemmas.{four_parts}
use Rattle.change_command.proofs.lines.put_change.Goals as goal

pub returns : goal.returns
returns c =
    let f = signed_line (codes "- ") in
    let g = signed_line (codes "+ ") in
    let before = string_bytes c.args.text.now in
    let gone = records_in c.deletions.result.now in
    let come = records_in c.additions.result.now in
    let soa = c.args.change.now.soa in
    let first = c.in_ok-put_sets.ensures ∙ ap (λ os. os ++ flat_map f gone) c.in_ok-put_set.ensures in
    let all = c.in_ok-put_sets-2.ensures ∙ ap (λ os. os ++ flat_map g come) (c.in_ok-put_set-2.ensures ∙ ap (λ os. os ++ flat_map g soa) first) in
    all ∙ four_parts f g c.soa.result.now gone soa come before
    ∙ (λ i. before ++ (flat_map f (c.soa.ensures.set i ++ c.deletions.ensures.records i) ++ flat_map g (soa ++ c.additions.ensures.records i)))
