-- The newest entry that is met is found.
use Rattle.std.proofs.Common.{◌≡◌, ◌+◌, ◌-◌, ◌<◌, length, drop, ap, sym, ◌∙◌, arith}
use Rattle.weak_history.specs.History.{later_entries}
use Rattle.weak_history.proofs.ChainLemmas.{some_at, met_at, missed_at}
use Rattle.weak_history.proofs.history.History.place_after.Goals as goal

pub returns-then-is_met_at : goal.returns-then-is_met_at
returns-then-is_met_at g c =
    let entries = c.args.self.now.entries in
    let at = c.loop-at.at - 1 in
    let some = c.loop-at-test.true in
    let many = c.loop-at.invariant.0 in
    let back : at + 1 ≡ c.loop-at.at = omega arith in
    let within : at < length entries = omega arith in
    let e = some_at entries at within in
    met_at c.args.from.0 c.args.upto entries at e.0 e.1 (ap (λ n. later_entries c.args.from.0 c.args.upto (drop n entries)) back ∙ c.loop-at.invariant.1) (sym (c.is_met_at.ensures e.0 e.1) ∙ c.if-is_met_at.true)

pub loop-at-preserved : goal.loop-at-preserved
loop-at-preserved g c =
    let entries = c.args.self.now.entries in
    let at = c.loop-at.at - 1 in
    let some = c.loop-at-test.true in
    let many = c.loop-at.invariant.0 in
    let back : at + 1 ≡ c.loop-at.at = omega arith in
    let within : at < length entries = omega arith in
    let e = some_at entries at within in (
      omega arith,
      missed_at c.args.from.0 c.args.upto entries at e.0 e.1 (ap (λ n. later_entries c.args.from.0 c.args.upto (drop n entries)) back ∙ c.loop-at.invariant.1) (sym (c.is_met_at.ensures e.0 e.1) ∙ c.if-is_met_at.false),
    )
