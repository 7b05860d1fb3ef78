use Rattle.std.proofs.Common.{◌≡◌, ◌<◌, ◌≤◌, ◌==◌, true, false, cond, length, List, Some, None, sym, ap, ◌∙◌, rules}
use Rattle.std.specs.Ordering.{nat_cmp, is_lt}
use Rattle.dns_rdata.specs.Record.{Record, rtype_of}
use Rattle.zone_tree.proofs.Rising.{rises_from_pairs}
use Rattle.update_core.proofs.TypePlaces.{find_there, find_past, same_item}
use Rattle.update_core.proofs.own_sets.set_of_type.Goals as goal
use Rattle.update_core.proofs.own_sets.set_of_type.Goals.{else-at-sets-via-then-at-sets+else-eq, else-at-sets-via-else-at-sets}

pub returns-then-eq : goal.returns-then-eq
returns-then-eq c =
    let t = c.args.rtype.0 in
    let own = c.args.sets.now in
    let at = c.count_lower-at.result in
    let point = c.count_lower-at.ensures.place in
    let rises = rises_from_pairs (λ s u. is_lt (nat_cmp (rtype_of s) (rtype_of u)) ≡ true) own c.requires in
    let within : at < length own = search rules in
    let here : (rtype_of c.index-sets-at.result == t) ≡ true = search rules in
    let x = c.index-sets-at-then-eq.result in
    let same = same_item own at x c.index-sets-at.result within c.index-sets-at-then-eq.is c.index-sets-at.is in
    let mine : (rtype_of x == t) ≡ true = ap (λ (s : List Record). rtype_of s == t) same ∙ here in
    sym (find_there t own at x rises within point.0 point.1 c.index-sets-at-then-eq.is ∙ ap (λ b. cond b (Some x) None) mine)

pub returns : goal.returns
returns c =
    let t = c.args.rtype.0 in
    let own = c.args.sets.now in
    let at = c.count_lower-at.result in
    let point = c.count_lower-at.ensures.place in
    let rises = rises_from_pairs (λ s u. is_lt (nat_cmp (rtype_of s) (rtype_of u)) ≡ true) own c.requires in
    sym (elim c.else-at-sets.branch [
      | else-at-sets-via-then-at-sets+else-eq w ↦
          let within : at < length own = search rules in
          let apart : (rtype_of w.index-sets-at.result == t) ≡ false = search rules in
          find_there t own at w.index-sets-at.result rises within point.0 point.1 w.index-sets-at.is ∙ ap (λ b. cond b (Some w.index-sets-at.result) None) apart
      | else-at-sets-via-else-at-sets w ↦
          let past : length own ≤ at = search rules in
          find_past t own at past point.0
    ])
