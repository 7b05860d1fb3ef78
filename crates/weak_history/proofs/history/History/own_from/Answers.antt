-- One owner more, or none where the entry is numbered beyond; and why one isn't owned.
use Rattle.std.proofs.Common.{rules, arith, ◌≡◌, ◌+◌, ◌<◌, ◌≤◌, true, false, length, drop, None, Some, ap, sym, ◌∙◌, subst}
use Rattle.std.specs.List.{slice_get}
use Rattle.weak_history.specs.History.{HistoryState, numbered_to}
use Rattle.weak_history.specs.Owned.{IsOwnedAt}
use Rattle.weak_history.proofs.ChainLemmas.{some_at, left_with, left_without, left_short, SoFar, on_to, one_more, room_left, lost_here}
use Rattle.weak_history.proofs.history.History.own_from.Goals as goal
use Rattle.weak_history.proofs.history.History.own_from.Goals.{in-Some, in_default}

pub returns-in-Err-clause-lost : goal.returns-in-Err-clause-lost
returns-in-Err-clause-lost g c =
    let entries = c.args.self.now.entries in
    let all = numbered_to c.args.upto (drop c.args.first entries) in
    let within : c.loop-at.at < length entries = omega (arith, c.loop-at-test.true, c.len-at-end.ensures.len) in
    let e = some_at entries c.loop-at.at within in
    let there : slice_get c.loop-at.self.entries c.loop-at.at ≡ Some e.0 = ap (λ (h : HistoryState _). slice_get h.entries c.loop-at.at) c.loop-at.invariant.0 ∙ e.1 in
    let rest = numbered_to c.args.upto (drop (c.loop-at.at + 1) entries) in
    lost_here all c.args.reader.now rest (numbered_to c.args.upto (drop c.loop-at.at entries)) e.0 c.args.upto c.loop-at.reader c.own_at.new.reader c.loop-at.owners c.in-Err.lost (λ up. left_with c.args.upto entries c.loop-at.at e.0 e.1 up) c.loop-at.invariant.1 (c.in-Err.ensures.lost e.0 there)

pub push-requires : goal.push-requires
push-requires g c =
    let entries = c.args.self.now.entries in
    let all = numbered_to c.args.upto (drop c.args.first entries) in
    let within : c.loop-at.at < length entries = omega (arith, c.loop-at-test.true, c.len-at-end.ensures.len) in
    let e = some_at entries c.loop-at.at within in
    let there : slice_get c.loop-at.self.entries c.loop-at.at ≡ Some e.0 = ap (λ (h : HistoryState _). slice_get h.entries c.loop-at.at) c.loop-at.invariant.0 ∙ e.1 in
    let rest = numbered_to c.args.upto (drop (c.loop-at.at + 1) entries) in
    let own = subst (IsOwnedAt e.0 c.args.upto c.loop-at.reader c.own_at.new.reader) c.in-Some.is (c.in-Ok.ensures.owned e.0 there) in
    let so_far = on_to all c.args.reader.now _ _ c.loop-at.reader c.loop-at.owners (left_with c.args.upto entries c.loop-at.at e.0 e.1 own.0) c.loop-at.invariant.1 in
    let few = room_left all c.args.reader.now rest e.0 c.loop-at.reader c.loop-at.owners so_far in
    let short = left_short c.args.upto entries c.args.first in
    let room : length c.loop-at.owners < 16 = omega (arith, few, short, c.len-at-end.ensures.len, c.len-at-end.ensures.most) in
    (search rules, room)

pub loop-at-preserved : goal.loop-at-preserved
loop-at-preserved g c =
    let entries = c.args.self.now.entries in
    let all = numbered_to c.args.upto (drop c.args.first entries) in
    let within : c.loop-at.at < length entries = omega (arith, c.loop-at-test.true, c.len-at-end.ensures.len) in
    let e = some_at entries c.loop-at.at within in
    let there : slice_get c.loop-at.self.entries c.loop-at.at ≡ Some e.0 = ap (λ (h : HistoryState _). slice_get h.entries c.loop-at.at) c.loop-at.invariant.0 ∙ e.1 in
    let rest = numbered_to c.args.upto (drop (c.loop-at.at + 1) entries) in
    let at_it = c.in-Ok.ensures.owned e.0 there in (
      c.in-Ok.ensures.same ∙ c.loop-at.invariant.0,
      elim c.match-found.branch [
        | in-Some w ↦
            let own = subst (IsOwnedAt e.0 c.args.upto c.loop-at.reader c.own_at.new.reader) w.in-Some.is at_it in
            let so_far = on_to all c.args.reader.now _ _ c.loop-at.reader c.loop-at.owners (left_with c.args.upto entries c.loop-at.at e.0 e.1 own.0) c.loop-at.invariant.1 in
            subst (λ o. SoFar all rest c.args.reader.now c.own_at.new.reader o) (sym w.owners-is) (one_more all c.args.reader.now rest e.0 c.loop-at.reader c.own_at.new.reader c.loop-at.owners w.push.new.self w.in-Some.owner so_far own.1 own.2 own.3 w.push.ensures)
        | in_default w ↦
            let none = subst (IsOwnedAt e.0 c.args.upto c.loop-at.reader c.own_at.new.reader) w.in_default.is at_it in
            let so_far = on_to all c.args.reader.now _ _ c.loop-at.reader c.loop-at.owners (left_without c.args.upto entries c.loop-at.at e.0 e.1 none.0) c.loop-at.invariant.1 in
            subst (λ o. SoFar all rest c.args.reader.now c.own_at.new.reader o) (sym w.owners-is) (subst (λ r. SoFar all rest c.args.reader.now r c.loop-at.owners) (sym none.1) so_far)
      ],
    )
