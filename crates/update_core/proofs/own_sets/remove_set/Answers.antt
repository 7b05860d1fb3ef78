use Rattle.std.proofs.Common.{◌≡◌, ◌<◌, ◌≤◌, ◌==◌, true, false, cond, length, List, Some, None, sym, ap, subst, ◌∙◌, rules}
use Rattle.std.specs.List.{find}
use Rattle.std.specs.List.Sorted.{IsPartitionPoint}
use Rattle.std.specs.Ordering.{nat_cmp, is_lt}
use Rattle.dns_rdata.specs.Record.{Record, rtype_of}
use Rattle.zone_tree.proofs.Rising.{rises_from_pairs}
use Rattle.update_core.proofs.TypePlaces.{find_there, find_past, removed_there, nothing_removed, same_item}
use Rattle.update_core.proofs.own_sets.remove_set.Goals as goal
use Rattle.update_core.proofs.own_sets.remove_set.Goals.{else-at-len-via-then-at-len+else-eq, else-at-len-via-else-at-len}

pub returns-then-eq-clause-set : goal.returns-then-eq-clause-set
returns-then-eq-clause-set c =
    let t = c.args.rtype.0 in
    let own = c.args.own.now.items in
    let at = c.count_lower-at.result in
    let point = subst (λ (l : List (List Record)). IsPartitionPoint (λ s. is_lt (nat_cmp (rtype_of s) t) ≡ true) (λ s. is_lt (nat_cmp (rtype_of s) t) ≡ false) l at) c.deref.ensures.value c.count_lower-at.ensures.place in
    let rises = rises_from_pairs (λ s u. is_lt (nat_cmp (rtype_of s) (rtype_of u)) ≡ true) own c.requires in
    let within : at < length own = search rules in
    let here : (rtype_of c.index.result.now == t) ≡ true = search rules in
    let x = c.remove.result in
    let same = same_item own at x c.index.result.now within c.remove.ensures.value c.index.ensures in
    let mine : (rtype_of x == t) ≡ true = ap (λ (s : List Record). rtype_of s == t) same ∙ here in
    sym (find_there t own at x rises within point.0 point.1 c.remove.ensures.value ∙ ap (λ b. cond b (Some x) None) mine)

pub returns-then-eq-clause-left : goal.returns-then-eq-clause-left
returns-then-eq-clause-left c =
    let t = c.args.rtype.0 in
    let own = c.args.own.now.items in
    let at = c.count_lower-at.result in
    let point = subst (λ (l : List (List Record)). IsPartitionPoint (λ s. is_lt (nat_cmp (rtype_of s) t) ≡ true) (λ s. is_lt (nat_cmp (rtype_of s) t) ≡ false) l at) c.deref.ensures.value c.count_lower-at.ensures.place in
    let rises = rises_from_pairs (λ s u. is_lt (nat_cmp (rtype_of s) (rtype_of u)) ≡ true) own c.requires in
    let within : at < length own = search rules in
    let here : (rtype_of c.index.result.now == t) ≡ true = search rules in
    let x = c.remove.result in
    let same = same_item own at x c.index.result.now within c.remove.ensures.value c.index.ensures in
    let mine : (rtype_of x == t) ≡ true = ap (λ (s : List Record). rtype_of s == t) same ∙ here in
    c.remove.ensures.items ∙ removed_there t own at x rises within point.0 point.1 c.remove.ensures.value mine

pub returns-clause-set : goal.returns-clause-set
returns-clause-set c =
    let t = c.args.rtype.0 in
    let own = c.args.own.now.items in
    let at = c.count_lower-at.result in
    let point = subst (λ (l : List (List Record)). IsPartitionPoint (λ s. is_lt (nat_cmp (rtype_of s) t) ≡ true) (λ s. is_lt (nat_cmp (rtype_of s) t) ≡ false) l at) c.deref.ensures.value c.count_lower-at.ensures.place in
    let rises = rises_from_pairs (λ s u. is_lt (nat_cmp (rtype_of s) (rtype_of u)) ≡ true) own c.requires in
    let lacks : find (λ (s : List Record). rtype_of s == t) own ≡ None =
    elim c.else-at-len.branch [
      | else-at-len-via-then-at-len+else-eq w ↦
          let within : at < length own = search rules in
          let apart : (rtype_of w.index.result.now == t) ≡ false = search rules in
          find_there t own at w.index.result.now rises within point.0 point.1 w.index.ensures ∙ ap (λ b. cond b (Some w.index.result.now) None) apart
      | else-at-len-via-else-at-len w ↦
          let past : length own ≤ at = search rules in
          find_past t own at past point.0
    ] in
    sym lacks

pub returns-clause-left : goal.returns-clause-left
returns-clause-left c =
    let t = c.args.rtype.0 in
    let own = c.args.own.now.items in
    let at = c.count_lower-at.result in
    let point = subst (λ (l : List (List Record)). IsPartitionPoint (λ s. is_lt (nat_cmp (rtype_of s) t) ≡ true) (λ s. is_lt (nat_cmp (rtype_of s) t) ≡ false) l at) c.deref.ensures.value c.count_lower-at.ensures.place in
    let rises = rises_from_pairs (λ s u. is_lt (nat_cmp (rtype_of s) (rtype_of u)) ≡ true) own c.requires in
    let lacks : find (λ (s : List Record). rtype_of s == t) own ≡ None =
    elim c.else-at-len.branch [
      | else-at-len-via-then-at-len+else-eq w ↦
          let within : at < length own = search rules in
          let apart : (rtype_of w.index.result.now == t) ≡ false = search rules in
          find_there t own at w.index.result.now rises within point.0 point.1 w.index.ensures ∙ ap (λ b. cond b (Some w.index.result.now) None) apart
      | else-at-len-via-else-at-len w ↦
          let past : length own ≤ at = search rules in
          find_past t own at past point.0
    ] in
    sym (nothing_removed t own lacks)
