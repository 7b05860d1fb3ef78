use Rattle.std.proofs.Common.{◌≡◌, true, false, List, sym, ap, subst, ◌∙◌}
use Rattle.std.specs.List.{insert}
use Rattle.std.specs.List.Sorted.{IsPartitionPoint}
use Rattle.std.specs.Ordering.{nat_cmp, is_lt}
use Rattle.dns_rdata.specs.Record.{Record, rtype_of}
use Rattle.zone_tree.specs.From.{DoTypesAscend}
use Rattle.update_core.proofs.OwnSets.{types_kept, kept_by, inserted_is}
use Rattle.update_core.proofs.own_sets.put_set.Goals as goal

pub count_lower-place-requires : goal.count_lower-place-requires
count_lower-place-requires c = subst DoTypesAscend (sym (c.deref.ensures.value ∙ c.remove_set.ensures.left)) (types_kept _ c.args.own.now.items c.requires)

pub returns : goal.returns
returns c =
    let own = c.args.own.now.items in
    let set = c.args.set in
    let kept = c.deref.result.now in
    let at = c.count_lower-place.result in
    let place = subst (λ t. IsPartitionPoint (λ s. is_lt (nat_cmp (rtype_of s) t) ≡ true) (λ s. is_lt (nat_cmp (rtype_of s) t) ≡ false) kept at) c.rtype-2.ensures.of c.count_lower-place.ensures.place in
    let others = kept_by own kept set c.rtype.result.0 c.rtype.ensures.of (c.deref.ensures.value ∙ c.remove_set.ensures.left) in
    c.in_ok-insert.ensures.items ∙ ap (λ (l : List (List Record)). insert l at set) (sym c.deref.ensures.value) ∙ inserted_is own kept set at others c.count_lower-place.ensures.bound place
