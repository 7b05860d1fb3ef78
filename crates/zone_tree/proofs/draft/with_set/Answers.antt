-- One owner's sets are replaced.
use Rattle.std.proofs.Common.{◌∙◌, ap}
use Rattle.std.specs.Prelude.{◌==◌}
use Rattle.std.specs.List.{find}
use Rattle.std.specs.Option.{option_copied, option_to_list}
use Rattle.std.specs.Ordering.{nat_cmp}
use Rattle.dns_rdata.specs.Record.{rtype_of}
use Rattle.zone_tree.specs.Edit.{put_at}
use Rattle.zone_tree.proofs.EditLemmas.{few_go, next_sets, next_draft}
use Rattle.zone_tree.proofs.draft.with_set.Goals as goal

pub count_with-requires : goal.count_with-requires
count_with-requires c =
    let pairs = c.args.draft.now.owners.pairs in
    few_go c.args.owner.now c.args.rtype.0 pairs c.args.draft.now.count c.requires (option_copied c.set_of_type.result)
    (c.set_of_type.ensures ∙ ap (find (λ s. rtype_of s == c.args.rtype.0)) c.sets_at-own.ensures)

pub returns-clause-kept : goal.returns-clause-kept
returns-clause-kept c = λ fits.
    let pairs = c.args.draft.now.owners.pairs in
    next_draft c.args.owner.now c.args.rtype.0 pairs c.args.draft.now.count c.requires (option_copied c.set_of_type.result)
    (c.set_of_type.ensures ∙ ap (find (λ s. rtype_of s == c.args.rtype.0)) c.sets_at-own.ensures)
    (option_copied c.args.new) c.in_ok-count.ensures.lawful fits c.in_ok-next.next
    (c.in_ok-next.ensures ∙ ap (put_at (λ s. nat_cmp (rtype_of s) c.args.rtype.0) (option_to_list (option_copied c.args.new))) c.sets_at-own.ensures)
    c.in_ok-owners.owners.pairs c.in_ok-owners.ensures.kept c.in_ok-owners.ensures.gone c.in_ok-count.count c.in_ok-count.ensures.count

pub returns-clause-sets : goal.returns-clause-sets
returns-clause-sets c = λ fits.
    let pairs = c.args.draft.now.owners.pairs in
    next_sets c.args.owner.now c.args.rtype.0 pairs c.args.draft.now.count c.requires (option_copied c.set_of_type.result)
    (c.set_of_type.ensures ∙ ap (find (λ s. rtype_of s == c.args.rtype.0)) c.sets_at-own.ensures)
    (option_copied c.args.new) c.in_ok-count.ensures.lawful fits c.in_ok-next.next
    (c.in_ok-next.ensures ∙ ap (put_at (λ s. nat_cmp (rtype_of s) c.args.rtype.0) (option_to_list (option_copied c.args.new))) c.sets_at-own.ensures)
    c.in_ok-owners.owners.pairs c.in_ok-owners.ensures.kept c.in_ok-owners.ensures.gone
