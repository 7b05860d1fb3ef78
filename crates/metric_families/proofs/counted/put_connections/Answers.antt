use Rattle.std.proofs.Common.{ap, ◌∙◌, codes, rules}
use Rattle.metrics_text.specs.declared.family.Kind.TheVariants.{Counter as counter, Gauge as gauge}
use Rattle.metric_families.specs.Families.{plain_family}
use Rattle.metric_families.proofs.PutLemmas.{first, after}
use Rattle.metric_families.proofs.counted.put_connections.Goals as goal

pub returns : goal.returns
returns c =
    after c.args.families.now.items _ (after c.args.families.now.items _ (first c.args.families.now.items c.in_ok-push.ensures.items (c.in_ok-single.ensures ∙ ap (plain_family (codes "dnsd_connections") (codes "TCP connections that are open") gauge) (search rules))) c.in_ok-push-2.ensures.items
    (c.in_ok-single-2.ensures ∙ ap (plain_family (codes "dnsd_connections_opened_total") (codes "TCP connections that were opened") counter) c.get-opened.ensures)) c.in_ok-push-3.ensures.items
    c.in_ok-connection_ends.ensures
