use Rattle.std.proofs.Common.{rules}
use Rattle.metric_families.proofs.PutLemmas.{first, after, joined}
use Rattle.metric_families.proofs.server.server_families.Goals as goal

pub returns : goal.returns
returns c =
    let start = c.args.families.now.items in
    joined start _ _ (after start _ (first start c.in_ok-push.ensures.items (search rules)) c.in_ok-push-2.ensures.items c.in_ok-single.ensures) c.in_ok-put_zone.ensures
