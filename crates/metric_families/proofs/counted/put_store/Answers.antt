use Rattle.std.proofs.Common.{ap, ◌∙◌, codes}
use Rattle.metrics_text.specs.declared.family.Kind.TheVariants.{Counter as counter}
use Rattle.metric_families.specs.Families.{plain_family}
use Rattle.metric_families.proofs.PutLemmas.{first, after}
use Rattle.metric_families.proofs.counted.put_store.Goals as goal

pub returns : goal.returns
returns c =
    after c.args.families.now.items _ (after c.args.families.now.items _ (after c.args.families.now.items _ (first c.args.families.now.items c.in_ok-push.ensures.items c.in_ok-times_family.ensures) c.in_ok-push-2.ensures.items
    (c.in_ok-single.ensures ∙ ap (plain_family (codes "dnsd_store_batches_total") (codes "Batches of updates that the store wrote") counter) c.get.ensures)) c.in_ok-push-3.ensures.items
    (c.in_ok-single-2.ensures ∙ ap (plain_family (codes "dnsd_store_batch_updates_total") (codes "Updates of these batches") counter) c.get-2.ensures)) c.in_ok-push-4.ensures.items
    (c.in_ok-single-3.ensures ∙ ap (plain_family (codes "dnsd_store_compactions_total") (codes "Compactions of the store") counter) c.get-3.ensures)
