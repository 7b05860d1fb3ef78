use Rattle.std.proofs.Common.{◌≡◌, ap, ◌∙◌, [], arith}
use Rattle.cell_core.specs.Words.{slots}
use Rattle.counted_handles.specs.declared.view.View.TheVariants.{Publishes}
use Rattle.counted_handles.proofs.EndLemmas.{swept_to}
use Rattle.counted_handles.proofs.ending.sweep.Goals as goal

pub pass-requires-clause-due : goal.pass-requires-clause-due
pass-requires-clause-due g c =
    let due = c.requires.due in
    let slot = c.loop-slot.slot in
    (record (due.0) { swept = slot }, due.1, swept_to due.0 due.1 c.args.last slot c.args.seat.now.me c.loop-slot.seat.me due.2 (c.loop-slot.invariant.3 due.0 due.1 due.2))

pub returns-then-not-pass-clause-swept : goal.returns-then-not-pass-clause-swept
returns-then-not-pass-clause-swept g c p word is =
    let slot = c.loop-slot.slot in
    (slot, c.if-not-pass.ensures.passed (record p { swept = slot }) word (swept_to p word c.args.last slot c.args.seat.now.me c.loop-slot.seat.me is (c.loop-slot.invariant.3 p word is)))

pub loop-slot-preserved : goal.loop-slot-preserved
loop-slot-preserved g c =
    let slot = c.loop-slot.slot in
    let inv = c.loop-slot.invariant in (
      omega arith,
      c.pass.ensures.seat.0 ∙ inv.1,
      c.pass.ensures.seat.1 ∙ inv.2,
      λ p word is. c.if-not-pass.ensures.passed (record p { swept = slot }) word (swept_to p word c.args.last slot c.args.seat.now.me c.loop-slot.seat.me is (inv.3 p word is)),
    )

pub returns-clause-swept : goal.returns-clause-swept
returns-clause-swept g c p word is =
    let inv = c.loop-slot.invariant in
    let all : c.loop-slot.slot ≡ slots = omega (arith, inv.0) in
    inv.3 p word is ∙ ap (λ n. (Publishes (record p { swept = n }), [])) all
