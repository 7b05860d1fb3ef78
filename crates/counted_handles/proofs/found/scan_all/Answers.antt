use Rattle.std.proofs.Common.{◌≡◌, ◌<◌, ◌+◌, refl, sym, ◌∙◌, subst, arith}
use Rattle.cell_core.specs.Words.{slots}
use Rattle.cell_core.specs.declared.words.Publisher.TheVariants.{Probing}
use Rattle.counted_handles.proofs.CallLemmas.{wrapped}
use Rattle.counted_handles.proofs.FoundLemmas.{Looking, looking_first, looking_due, looking_more, looking_on, looked_all}
use Rattle.counted_handles.proofs.found.scan_all.Goals as goal
use Rattle.counted_handles.proofs.found.scan_all.Goals.{then-scan, else-scan}

pub loop-slot-init : goal.loop-slot-init
loop-slot-init g c = (omega arith, omega arith, refl, refl, λ p due. looking_first p c.args.seat.now.me due)

pub scan-requires-clause-fits : goal.scan-requires-clause-fits
scan-requires-clause-fits g c = (c.requires.fits.0, c.loop-slot.invariant.2 ∙ c.requires.fits.1, c.loop-slot.invariant.3 ∙ c.requires.fits.2, omega arith)

pub scan-requires-clause-due : goal.scan-requires-clause-due
scan-requires-clause-due g c =
    let inv = c.loop-slot.invariant in
    let due = c.requires.due in
    let look = inv.4 due.0 due.1 in
    (_, looking_due due.0 c.loop-slot.slot c.loop-slot.count c.loop-slot.seat.me (omega arith) look)

pub loop-slot-preserved : goal.loop-slot-preserved
loop-slot-preserved g c =
    let inv = c.loop-slot.invariant in
    let slot = c.loop-slot.slot in
    let count = c.loop-slot.count in
    let before = c.loop-slot.seat.me in
    let after = c.scan.new.seat.me in
    let l : slot < slots = omega arith in
    elim c.if-scan.branch [
      | then-scan w ↦ (
        omega arith,
        omega (arith, w.count-is, inv.1),
        c.scan.ensures.seat.0 ∙ inv.2,
        c.scan.ensures.seat.1 ∙ inv.3,
        λ p due.
            let look = inv.4 p due in
            let reported = w.if-scan.ensures.scanned (record p { how = Probing (wrapped slot); found = look.0 }) (looking_due p slot count before l look) in
            subst (λ n. Looking p (slot + 1) n after) (sym w.count-is) (looking_more p slot count before after look.0 l look.2 look.3 reported),
      )
      | else-scan w ↦ (
        omega arith,
        omega (arith, w.count-is, inv.1),
        c.scan.ensures.seat.0 ∙ inv.2,
        c.scan.ensures.seat.1 ∙ inv.3,
        λ p due.
            let look = inv.4 p due in
            let reported = w.if-scan.ensures.scanned (record p { how = Probing (wrapped slot); found = look.0 }) (looking_due p slot count before l look) in
            subst (λ n. Looking p (slot + 1) n after) (sym w.count-is) (looking_on p slot count before after look.0 l look.2 look.3 reported),
      )
    ]

pub returns-clause-scanned : goal.returns-clause-scanned
returns-clause-scanned g c p due =
    let inv = c.loop-slot.invariant in
    let all : c.loop-slot.slot ≡ slots = omega (arith, inv.0) in
    looked_all p c.loop-slot.slot c.loop-slot.count c.loop-slot.seat.me due.1 all (inv.4 p due)
