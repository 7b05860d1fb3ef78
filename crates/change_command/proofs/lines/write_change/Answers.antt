use Rattle.std.proofs.Common.{◌++◌, codes, flat_map, sym, ◌∙◌}
use Rattle.zone_tree.specs.Zone.{soa_of}
use Rattle.change_command.specs.ChangeText.{signed_line}
use Rattle.change_command.proofs.LineLemmas.{same_text, other_text}
use Rattle.change_command.proofs.lines.write_change.Goals as goal

pub returns-in_default-clause-text : goal.returns-in_default-clause-text
returns-in_default-clause-text c = c.new.ensures.bytes ∙ sym (same_text c.args.old.now c.args.next.now (rw c.in_default.is at c.in_ok-change.ensures.change))

pub returns-clause-text : goal.returns-clause-text
returns-clause-text c =
    let f = signed_line (codes "- ") in
    let g = signed_line (codes "+ ") in
    let reported = rw c.in-Some.is at c.in_ok-change.ensures.change in
    c.in_ok-put_change.ensures
    ∙ (λ i. c.new-text.ensures.bytes i ++ (flat_map f (soa_of c.args.old.now ++ reported.0.deletions i) ++ flat_map g (reported.1 i ++ reported.0.additions i)))
    ∙ sym (other_text c.args.old.now c.args.next.now reported.2)
