use Rattle.metric_families.proofs.PutLemmas.{first, after}
use Rattle.metric_families.proofs.server.secondary_families.Goals as goal

pub returns : goal.returns
returns c =
    after c.args.families.now.items _ (first c.args.families.now.items c.in_ok-push.ensures.items c.in_ok-notifies.ensures) c.in_ok-push-2.ensures.items c.in_ok-notify_serials.ensures
