use Rattle.std.proofs.Common.{ap, ◌∙◌}
use Rattle.counted_handles.specs.declared.view.View.TheVariants.{Has}
use Rattle.counted_handles.specs.Ruled.{mark_of}
use Rattle.counted_handles.proofs.PutLemmas.{taken_as, ready_of}
use Rattle.counted_handles.proofs.publications.put.Goals as goal

pub shelve-requires-clause-ready : goal.shelve-requires-clause-ready
shelve-requires-clause-ready g c =
    let t = c.requires.taken in
    let s = c.share.ensures.shared in
    let put = c.replace.ensures in
    let same = c.share.ensures.same in
    let key = s.3 ∙ ap (λ v. Has (mark_of s.0.views c.args.slot v s.0.life s.0.tally)) c.of.ensures in
    (taken_as t.0 c.args.slot t.1.spot, c.args.version.value, c.share.new.self, ready_of c.args.slot c.args.words.now.table_id.views_name t.0 c.args.version c.args.seat.now.me c.slot_mut-room.result.now c.replace.new.self c.share.new.self c.requires.fits.3 t.1 t.2 t.3 c.slot_mut-room.ensures.value put.1 put.2 same.0 same.1 s.0 s.1 s.2 key)

pub returns-clause-lies : goal.returns-clause-lies
returns-clause-lies g c p taken named numbered =
    let s = c.share.ensures.shared in
    let put = c.replace.ensures in
    let same = c.share.ensures.same in
    let key = s.3 ∙ ap (λ v. Has (mark_of s.0.views c.args.slot v s.0.life s.0.tally)) c.of.ensures in
    let ready = ready_of c.args.slot c.args.words.now.table_id.views_name p c.args.version c.args.seat.now.me c.slot_mut-room.result.now c.replace.new.self c.share.new.self c.requires.fits.3 taken named numbered c.slot_mut-room.ensures.value put.1 put.2 same.0 same.1 s.0 s.1 s.2 key in
    (taken.spot, c.shelve.ensures.lies (taken_as p c.args.slot taken.spot) c.args.version.value c.share.new.self ready)
