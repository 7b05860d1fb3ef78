use Rattle.std.proofs.Common.{◌≡◌, refl, sym, ap, ◌∙◌, ◌<◌, [], arith}
use Rattle.cell_core.specs.Words.{slots}
use Rattle.cell_core.specs.declared.words.Publisher.TheVariants.{Probing}
use Rattle.counted_handles.specs.declared.view.View.TheVariants.{Publishes}
use Rattle.counted_handles.specs.Tells.{beyond}
use Rattle.counted_handles.proofs.CallLemmas.{wrapped_is, wrapped_all, begun_probing, taken_from, absent_next}
use Rattle.counted_handles.proofs.calls.take.Goals as goal

pub loop-slot-init : goal.loop-slot-init
loop-slot-init g c = (omega arith, c.requires.due.0, refl, refl, λ p due. (due.0 ∙ ap (λ v. (v, [])) (begun_probing p 0 due.1 refl), λ k l. absurd (omega (arith, l))))

pub probe-requires-clause-fits : goal.probe-requires-clause-fits
probe-requires-clause-fits g c = (c.requires.fits.0, c.loop-slot.invariant.2 ∙ c.requires.fits.1, c.loop-slot.invariant.3 ∙ c.requires.fits.2)

pub probe-requires-clause-due : goal.probe-requires-clause-due
probe-requires-clause-due g c =
    let inv = c.loop-slot.invariant in
    let l : c.loop-slot.slot < slots = omega arith in
    let p = c.requires.due.1.0 in
    (omega (arith, inv.1), (record p { how = Probing _ }, ((inv.4 p c.requires.due.1.1).0, ap Probing (wrapped_is c.loop-slot.slot l ∙ sym inv.1))))

pub returns-then-probe-clause-seat : goal.returns-then-probe-clause-seat
returns-then-probe-clause-seat g c = (c.probe.ensures.seat.0 ∙ c.loop-slot.invariant.2, c.probe.ensures.seat.1 ∙ c.loop-slot.invariant.3)

pub returns-then-probe-clause-taken : goal.returns-then-probe-clause-taken
returns-then-probe-clause-taken g c p due =
    let inv = c.loop-slot.invariant in
    let l : c.loop-slot.slot < slots = omega arith in
    let taken = c.if-probe.ensures.seen (record p { how = Probing _ }) ((inv.4 p due).0, ap Probing (wrapped_is c.loop-slot.slot l ∙ sym inv.1)) in
    (l, taken_from p _ _ c.probe.new.seat.me c.loop-slot.slot inv.1 taken)

pub loop-slot-preserved : goal.loop-slot-preserved
loop-slot-preserved g c =
    let inv = c.loop-slot.invariant in
    let l : c.loop-slot.slot < slots = omega arith in (
      omega arith,
      omega (arith, c.if-probe.ensures.counted, inv.1),
      c.probe.ensures.seat.0 ∙ inv.2,
      c.probe.ensures.seat.1 ∙ inv.3,
      λ p due.
          let seen = c.if-probe.ensures.seen (record p { how = Probing _ }) ((inv.4 p due).0, ap Probing (wrapped_is c.loop-slot.slot l ∙ sym inv.1)) in
          (seen.0 ∙ ap (λ k. (Publishes (record p { how = Probing (beyond k) }), [])) inv.1, absent_next p.found c.loop-slot.slot _ inv.1 (inv.4 p due).1 seen.1),
    )

pub returns-clause-seat : goal.returns-clause-seat
returns-clause-seat g c = (c.loop-slot.invariant.2, c.loop-slot.invariant.3)

pub returns-clause-taken : goal.returns-clause-taken
returns-clause-taken g c p due =
    let inv = c.loop-slot.invariant in
    let all : c.loop-slot.slot ≡ slots = omega (arith, inv.0) in
    (inv.1 ∙ all, (inv.4 p due).0 ∙ ap (λ v. (v, [])) (sym (begun_probing p _ due.1 (wrapped_all c.loop-slot.slot all))), λ k l. (inv.4 p due).1 k (omega (arith, l, all)))
