use Rattle.std.proofs.Common.{rules}
use Rattle.metric_families.proofs.PutLemmas.{first, after}
use Rattle.metric_families.proofs.server.put_zone.Goals as goal

pub returns : goal.returns
returns c =
    let start = c.args.families.now.items in
    after start _ (after start _ (first start c.in_ok-push.ensures.items (search rules)) c.in_ok-push-2.ensures.items (search rules)) c.in_ok-push-3.ensures.items (search rules)
