use Rattle.std.proofs.Common.{sym, ap, ◌∙◌}
use Rattle.zone_tree.specs.Edit.{with_owner}
use Rattle.zone_tree.specs.Filed.{records_under}
use Rattle.zone_tree.specs.Sets.{records_in}
use Rattle.zone_tree.proofs.OwnLemmas.{with_owners-last}
use Rattle.zone_tree.proofs.draft.with_owned.Goals as goal

pub loop-owner-preserved : goal.loop-owner-preserved
loop-owner-preserved c = record {
  filed = c.in_ok-owners.ensures.filed;
  records = c.in_ok-owners.ensures.records ∙ ap (λ sets. with_owner c.in-Some.owner (records_in sets) (records_under c.loop-owner.owners.pairs)) c.own_of.ensures
      ∙ ap (with_owner c.in-Some.owner (records_in c.in-Some.own.items)) c.loop-owner.invariant.records
      ∙ sym (with_owners-last (records_under c.args.owners.pairs) c.loop-owner.yielded (c.in-Some.owner, c.in-Some.own));
}
