use Rattle.std.proofs.Common.{◌≡◌, ◌∙◌, sym, ap, subst, ℕ, [], Option, Some}
use Rattle.std.specs.Prelude.{IfOk}
use Rattle.master_file.specs.ZoneText.{first_line, is_conflict, is_too_many}
use Rattle.master_file.proofs.CrowdedLemmas.{few_among, first_among}
use Rattle.master_file.proofs.faulty.first_conflict.Goals as goal

pub first_shown-requires-2-clause-few : goal.first_shown-requires-2-clause-few
first_shown-requires-2-clause-few c = λ _.
    ap (first_line is_too_many []) (c.deref-3.ensures.value ∙ c.in_ok-crowded.ensures) ∙ few_among c.in_ok-owners.owners.keys c.args.records.now c.requires.few

pub first_shown-requires-2-clause-shown : goal.first_shown-requires-2-clause-shown
first_shown-requires-2-clause-shown c = λ none.
    let all = c.args.records.now in
    let first =
    first_among c.in_ok-owners.owners.keys all c.args.sets.items c.deref-2.result.now c.requires.sets c.requires.rising.each (c.deref-2.ensures.value ∙ c.keep_others.ensures)
    (sym c.in-Ok-false.ensures.conflict ∙ c.in-Ok-false.field-0-test) in
    c.requires.shown (first ∙ ap (first_line is_conflict []) (sym (c.deref-3.ensures.value ∙ c.in_ok-crowded.ensures)) ∙ none)

pub returns : goal.returns
returns c =
    let all = c.args.records.now in
    let first =
    first_among c.in_ok-owners.owners.keys all c.args.sets.items c.deref-2.result.now c.requires.sets c.requires.rising.each (c.deref-2.ensures.value ∙ c.keep_others.ensures)
    (sym c.in-Ok-false.ensures.conflict ∙ c.in-Ok-false.field-0-test) in
    let same : first_line is_conflict [] c.deref-3.result.now ≡ first_line is_conflict [] all =
    ap (first_line is_conflict []) (c.deref-3.ensures.value ∙ c.in_ok-crowded.ensures) ∙ sym first in
    subst (λ (found : Option ℕ). IfOk c.first_shown-2.result (λ line. found ≡ Some line)) same c.first_shown-2.ensures
