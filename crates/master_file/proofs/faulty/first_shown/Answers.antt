use Rattle.std.proofs.Common.{◌≡◌, Ok, subst, suc, [], take, None, arith, ℕ}
use Rattle.master_file.specs.FaultyLine.{shows}
use Rattle.master_file.specs.ZoneText.{first_line}
use Rattle.master_file.proofs.FaultyLemmas.{line_shown}
use Rattle.master_file.proofs.faulty.first_shown.Goals as goal

pub returns : goal.returns
returns c =
    let all = c.args.records.now in
    let test = shows c.args.sought in
    let high : c.loop-low.high ≡ suc c.loop-low.low = omega (arith, c.loop-low-test.false, c.loop-low.invariant.apart) in
    let some = subst (λ (n : ℕ). first_line test [] (take n all) ≡ None → ⊥) high c.loop-low.invariant.some in
    line_shown {E = ⊥} test all c.loop-low.low (Ok c.line_at.result) c.loop-low.invariant.none some c.line_at.ensures (omega (arith, c.loop-low.invariant.apart, c.loop-low.invariant.within))
