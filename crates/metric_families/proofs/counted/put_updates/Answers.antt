use Rattle.std.proofs.Common.{ap, ◌∙◌, codes}
use Rattle.metrics_text.specs.declared.family.Kind.TheVariants.{Counter as counter}
use Rattle.metric_families.specs.Families.{plain_family}
use Rattle.metric_families.proofs.PutLemmas.{first, after}
use Rattle.metric_families.proofs.counted.put_updates.Goals as goal

pub returns : goal.returns
returns c =
    after c.args.families.now.items _ (after c.args.families.now.items _ (after c.args.families.now.items _ (first c.args.families.now.items c.in_ok-push.ensures.items c.in_ok-update_rcodes.ensures) c.in_ok-push-2.ensures.items
    (c.in_ok-single.ensures ∙ ap (plain_family (codes "dnsd_updates_changed_total") (codes "Updates that changed the zone") counter) c.get.ensures)) c.in_ok-push-3.ensures.items
    c.in_ok-refusals.ensures) c.in_ok-push-4.ensures.items
    c.in_ok-times_family.ensures
