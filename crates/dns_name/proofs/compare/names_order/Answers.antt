use Rattle.std.proofs.Common.{drop, ap, ◌∙◌}
use Rattle.std.specs.Ordering.{ordering_then}
use Rattle.dns_name.specs.Labels.{labels_in}
use Rattle.dns_name.specs.Name.{canonical_cmp}
use Rattle.dns_name.proofs.OrderLemmas.{cut_surplus}
use Rattle.dns_name.proofs.compare.names_order.Goals as goal

pub returns : goal.returns
returns c =
    let name = labels_in c.args.own.now in
    let other = labels_in c.args.other.now in
    let cut = c.without-level.ensures.labels ∙ ap (λ k. drop k name) c.saturating_sub.ensures in
    let cut_other = c.without-level_other.ensures.labels ∙ ap (λ k. drop k other) c.saturating_sub-2.ensures in
    c.level_order.ensures
    ∙ ap (ordering_then (canonical_cmp (labels_in c.without-level.result.now) (labels_in c.without-level_other.result.now))) c.cmp.ensures
    ∙ cut_surplus name other c.label_count-count.result c.label_count-others.result _ _ c.label_count-count.ensures c.label_count-others.ensures cut cut_other
