-- A sort and a dedup leave names in strictly ascending order, and none is lost.
use Rattle.std.proofs.Common.{sym, ap, ◌∙◌, subst}
use Rattle.std.specs.List.{list_any}
use Rattle.std.specs.List.Sorted.{IsStrictlySortedBy}
use Rattle.std.proofs.lemmas.List.Kept.{IsStrictlySortedBy-dedup}
use Rattle.std.proofs.lemmas.List.Sorted.{list_any-IsPermutation}
use Rattle.std.proofs.lemmas.List.Filters.{dedup_is}
use Rattle.dns_name.specs.Name.{canonical_cmp, is_same}
use Rattle.dns_name.specs.Order.{canonical_total, is_same_tied}
use Rattle.zone_tree.proofs.LackingLemmas.{kept_once, any_folded}
use Rattle.zone_tree.proofs.left_out.in_order.Goals as goal

pub returns-clause-ascending : goal.returns-clause-ascending
returns-clause-ascending c =
    subst (IsStrictlySortedBy canonical_cmp) (sym (dedup_is is_same c.sort_unstable.new.self.items c.dedup.new.self.items c.dedup.ensures.filtered))
    (IsStrictlySortedBy-dedup canonical_total is_same_tied c.sort_unstable.new.self.items c.sort_unstable.ensures.sorted)

pub returns-clause-same : goal.returns-clause-same
returns-clause-same c = λ name.
    ap (list_any (is_same name)) (dedup_is is_same c.sort_unstable.new.self.items c.dedup.new.self.items c.dedup.ensures.filtered) ∙ kept_once name c.sort_unstable.new.self.items
    ∙ sym (list_any-IsPermutation (is_same name) _ c.sort_unstable.new.self.items c.sort_unstable.ensures.permutation)
    ∙ ap (list_any (is_same name)) c.in_ok-owners.ensures ∙ any_folded name c.args.names.now
