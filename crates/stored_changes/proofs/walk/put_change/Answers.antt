use Rattle.std.proofs.Common.{◌≡◌, ◌≤◌, ◌++◌, List, ℕ, length, codes, flat_map, string_bytes, sym, ap, ◌∙◌, subst}
use Rattle.std.proofs.lemmas.List.{append_assoc}
use Rattle.dns_rdata.specs.Record.{Record}
use Rattle.zone_tree.specs.Change.{left_out}
use Rattle.zone_tree.specs.Sets.{records_in}
use Rattle.change_command.specs.ChangeText.{signed_line}
use Rattle.change_command.proofs.LineLemmas.{four_parts}
use Rattle.stored_changes.specs.StoredChanges.{head_line}
use Rattle.stored_changes.proofs.WalkLemmas.{few_left_out}
use Rattle.stored_changes.proofs.walk.put_change.Goals as goal

pub count_in-deleted-requires : goal.count_in-deleted-requires
count_in-deleted-requires c =
    subst (λ (rs : List Record). length rs ≤ 1000000) (sym (c.deletions.ensures.records ∙ c.requires.deletions))
    (few_left_out c.args.before.now c.args.after.now c.soa-old_soa.ensures.lawful)

pub count_in-added-requires : goal.count_in-added-requires
count_in-added-requires c =
    subst (λ (rs : List Record). length rs ≤ 1000000) (sym (c.additions.ensures.records ∙ c.requires.additions))
    (few_left_out c.args.after.now c.args.before.now c.soa-soa.ensures.lawful)

pub returns : goal.returns
returns c =
    let before = c.args.before.now in
    let after = c.args.after.now in
    let f = signed_line (codes "- ") in
    let g = signed_line (codes "+ ") in
    let text = string_bytes c.args.reported.now in
    let old_soa = c.soa-old_soa.result.now in
    let soa = c.soa-soa.result.now in
    let gone = records_in c.deletions-2.result.now in
    let come = records_in c.additions-2.result.now in
    let are_gone : gone ≡ left_out before after = c.deletions-2.ensures.records ∙ c.requires.deletions in
    let are_come : come ≡ left_out after before = c.additions-2.ensures.records ∙ c.requires.additions in
    let deleted : c.count_in-deleted.result ≡ length (left_out before after) =
    c.count_in-deleted.ensures ∙ ap length (c.deletions.ensures.records ∙ c.requires.deletions) in
    let added : c.count_in-added.result ≡ length (left_out after before) =
    c.count_in-added.ensures ∙ ap length (c.additions.ensures.records ∙ c.requires.additions) in
    let head = head_line c.serial.result.0 c.serial-2.result.0 c.count_in-deleted.result c.count_in-added.result in
    let one = c.in_ok-put_set.ensures ∙ ap (λ (os : List ℕ). os ++ flat_map f old_soa) c.in_ok-put_head.ensures in
    let two = c.in_ok-put_sets.ensures ∙ ap (λ (os : List ℕ). os ++ flat_map f gone) one in
    let three = c.in_ok-put_set-2.ensures ∙ ap (λ (os : List ℕ). os ++ flat_map g soa) two in
    let four = c.in_ok-put_sets-2.ensures ∙ ap (λ (os : List ℕ). os ++ flat_map g come) three in
    four ∙ four_parts f g old_soa gone soa come (text ++ head)
    ∙ append_assoc text head (flat_map f (old_soa ++ gone) ++ flat_map g (soa ++ come))
    ∙ (λ i. text ++ (head_line (c.serial.ensures i) (c.serial-2.ensures i) (deleted i) (added i) ++ (flat_map f (c.soa-old_soa.ensures.set i ++ are_gone i) ++ flat_map g (c.soa-soa.ensures.set i ++ are_come i))))
