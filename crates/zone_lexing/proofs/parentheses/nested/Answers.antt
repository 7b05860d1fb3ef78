use Rattle.std.proofs.Common.{◌+◌, ◌∙◌, sym, arith}
use Rattle.std.proofs.lemmas.List.{take_rest, length-drop}
use Rattle.zone_lexing.proofs.ScanLemmas.{nested_on, nested_below}
use Rattle.zone_lexing.proofs.parentheses.nested.Goals as goal
use Rattle.zone_lexing.proofs.parentheses.nested.Goals.{in-LineEnd, in_default-token}

pub loop-token-preserved : goal.loop-token-preserved
loop-token-preserved c =
    let rest = c.loop-token.rest.now in
    let len = c.in-Some.len in
    let left = length-drop len rest in
    let some = c.in-Some.ensures.some in
    let within = c.in-Some.ensures.within in
    let kept = c.loop-token.invariant in
    rw take_rest (elim c.match-token.branch [
      | in-LineEnd w ↦ (rw w.above-is (nested_below rest c.in-Some.token len (c.loop-token.above + 1) (sym c.in-Some.ensures.item) some w.in-LineEnd.is ∙ kept.0), omega arith)
      | in_default-token w ↦ (rw w.above-is (nested_on rest c.in-Some.token len (c.loop-token.above + 1) (sym c.in-Some.ensures.item) some w.in_default-token.not-Open w.in_default-token.not-LineEnd ∙ kept.0), omega arith)
    ])
