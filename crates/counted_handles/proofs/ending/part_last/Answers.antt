use Rattle.std.proofs.Common.{◌≡◌, false, refl, sym, ap, ◌∙◌, [], ◌∷◌, Some}
use Rattle.cell_core.specs.Words.{slots, slot_of}
use Rattle.atomic_table.specs.Table.{rest}
use Rattle.counted_handles.specs.Ruled.{stake_of}
use Rattle.counted_handles.proofs.EndLemmas.{alone_last, looked_at, swept_to, parted_as}
use Rattle.counted_handles.proofs.ending.part_last.Goals as goal

pub sweep-requires-clause-due : goal.sweep-requires-clause-due
sweep-requires-clause-due g c =
    let due = c.requires.alone in
    let reported = c.look-found.ensures.looked due.0 due.1.me_is in
    (record (due.0) { fixed = Some c.look-found.result; swept = 0; busy = false }, c.look-found.result, looked_at due.0 c.look-found.result c.args.seat.now.me c.look-found.new.seat.me due.1 reported)

pub returns-then-not-sweep-clause-parted : goal.returns-then-not-sweep-clause-parted
returns-then-not-sweep-clause-parted g c p is =
    let word = c.look-found.result in
    let reported = c.look-found.ensures.looked p is.me_is in
    let swept = c.if-not-sweep.ensures.swept (record p { fixed = Some word; swept = 0; busy = false }) word (looked_at p word c.args.seat.now.me c.look-found.new.seat.me is reported) in
    (Some word, swept.0, swept.1)

pub part-requires-clause-fits : goal.part-requires-clause-fits
part-requires-clause-fits g c =
    let due = c.requires.alone in
    let reported = c.look-found.ensures.looked due.0 due.1.me_is in
    (c.requires.fits.0, c.sweep.ensures.seat.0 ∙ c.look-found.ensures.seat.0 ∙ c.requires.fits.1, c.sweep.ensures.seat.1 ∙ c.look-found.ensures.seat.1 ∙ c.requires.fits.2, reported.0)

pub part-requires-clause-due : goal.part-requires-clause-due
part-requires-clause-due g c =
    let due = c.requires.alone in
    let word = c.look-found.result in
    let reported = c.look-found.ensures.looked due.0 due.1.me_is in
    let looked = looked_at due.0 word c.args.seat.now.me c.look-found.new.seat.me due.1 reported in
    let swept = c.if-not-sweep.ensures.swept (record (due.0) { fixed = Some word; swept = 0; busy = false }) word looked in
    (record (due.0) { fixed = Some word; swept = slots; busy = false }, word, swept_to (record (due.0) { fixed = Some word; swept = 0; busy = false }) word (slot_of word) slots c.look-found.new.seat.me c.sweep.new.seat.me looked swept, refl)

pub returns-then-not-part-clause-parted : goal.returns-then-not-part-clause-parted
returns-then-not-part-clause-parted g c p is =
    let word = c.look-found.result in
    let reported = c.look-found.ensures.looked p is.me_is in
    let looked = looked_at p word c.args.seat.now.me c.look-found.new.seat.me is reported in
    let swept = c.if-not-sweep.ensures.swept (record p { fixed = Some word; swept = 0; busy = false }) word looked in
    let sweeping = swept_to (record p { fixed = Some word; swept = 0; busy = false }) word (slot_of word) slots c.look-found.new.seat.me c.sweep.new.seat.me looked swept in
    (Some word, slots, c.if-not-part.ensures.parted (record p { fixed = Some word; swept = slots; busy = false }) word sweeping refl)

pub collect-requires : goal.collect-requires
collect-requires g c =
    let due = c.requires.alone in
    let word = c.look-found.result in
    let reported = c.look-found.ensures.looked due.0 due.1.me_is in
    let looked = looked_at due.0 word c.args.seat.now.me c.look-found.new.seat.me due.1 reported in
    let swept = c.if-not-sweep.ensures.swept (record (due.0) { fixed = Some word; swept = 0; busy = false }) word looked in
    let sweeping = swept_to (record (due.0) { fixed = Some word; swept = 0; busy = false }) word (slot_of word) slots c.look-found.new.seat.me c.sweep.new.seat.me looked swept in
    let e = c.if-not-part.ensures.parted (record (due.0) { fixed = Some word; swept = slots; busy = false }) word sweeping refl in
    let carried : c.part.new.seat.me.1 ≡ (slot_of word, e.room) ∷ [] = λ i. (e.me_is i).1 in (
      c.part.ensures.seat.0 ∙ c.sweep.ensures.seat.0 ∙ c.look-found.ensures.seat.0 ∙ c.requires.fits.1,
      (
        e.room,
        stake_of e.mark,
        carried ∙ ap (λ l. (slot_of word, e.room) ∷ rest l) (sym carried),
        e.stake,
        e.name_is ∙ due.2,
        alone_last g.C.Names.begins g.C.Follows.follows c.args.words.now.key.places.items c.part.new.seat.id (slot_of word) e.spot e.mark c.part.new.seat.me.0 (λ i. (e.me_is i).0),
      ),
    )

pub returns-clause-parted : goal.returns-clause-parted
returns-clause-parted g c p is =
    let word = c.look-found.result in
    let reported = c.look-found.ensures.looked p is.me_is in
    let looked = looked_at p word c.args.seat.now.me c.look-found.new.seat.me is reported in
    let swept = c.if-not-sweep.ensures.swept (record p { fixed = Some word; swept = 0; busy = false }) word looked in
    let sweeping = swept_to (record p { fixed = Some word; swept = 0; busy = false }) word (slot_of word) slots c.look-found.new.seat.me c.sweep.new.seat.me looked swept in
    let e = c.if-not-part.ensures.parted (record p { fixed = Some word; swept = slots; busy = false }) word sweeping refl in
    parted_as p (Some word) slots (slot_of word) c.part.new.seat.me c.collect.new.seat.me e c.collect.ensures.2
