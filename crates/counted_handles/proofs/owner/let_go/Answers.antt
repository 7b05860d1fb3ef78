use Rattle.std.proofs.Common.{refl, sym, ◌∙◌, subst, []}
use Rattle.counted_handles.specs.declared.view.View.TheVariants.{Buries}
use Rattle.counted_handles.specs.Releases.{IsReleased}
use Rattle.counted_handles.specs.Ruled.{version_of}
use Rattle.counted_handles.proofs.Burials.{is_due, ends_there, ends_lost}
use Rattle.counted_handles.proofs.owner.let_go.Goals as goal

pub lower-releasing-requires-clause-has : goal.lower-releasing-requires-clause-has
lower-releasing-requires-clause-has g c =
    let has = c.requires.has in
    (has.0, c.stand-seat.ensures.has has.0 has.1, has.2, c.requires.fits.1)

pub end-requires : goal.end-requires
end-requires g c =
    let has = c.requires.has in
    let reported = c.lower-releasing.ensures.lowered has.0 (c.stand-seat.ensures.has has.0 has.1) in
    ends_there g.C.Names.begins g.C.Follows.follows has.0 c.lower-releasing.result c.lower-releasing.new.seat.me (λ e. let no = c.if-not-is_due.ensures.1 e in cc) reported

pub bury-requires-clause-due : goal.bury-requires-clause-due
bury-requires-clause-due g c =
    let has = c.requires.has in
    let reported = c.lower-releasing.ensures.lowered has.0 (c.stand-seat.ensures.has has.0 has.1) in
    let one = c.if-not-is_due.ensures.0 refl in
    let due = is_due has.0 c.lower-releasing.result c.lower-releasing.new.seat.me one reported in
    (one, due ∙ (λ i. (Buries (has.2 i) (has.3 i), [])), c.requires.fits.1)

pub end-requires-then-not-bury : goal.end-requires-then-not-bury
end-requires-then-not-bury g c = ends_lost g.C.Names.begins g.C.Follows.follows c.bury.new.self c.bury.new.seat.me c.if-not-bury.ensures.tried

pub fade-requires-clause-buried : goal.fade-requires-clause-buried
fade-requires-clause-buried g c =
    let out = c.if-not-bury.ensures.tried.1 in
    (out.mark.number, c.empty.ensures.number (version_of out.mark) (out.spot, out.room, out.me_is, out.version), c.empty.ensures.emptied)

pub end-requires-then-not-fade : goal.end-requires-then-not-fade
end-requires-then-not-fade g c =
    let out = c.if-not-bury.ensures.tried.1 in
    let outlived = c.if-not-fade.ensures.faded out.mark.number (c.empty.ensures.number (version_of out.mark) (out.spot, out.room, out.me_is, out.version)) in
    subst (IsReleased g.C.Names.begins g.C.Follows.follows) (sym outlived.1) (outlived.2, (version_of out.mark, refl, out.older))

pub reset-requires-clause-faded : goal.reset-requires-clause-faded
reset-requires-clause-faded g c =
    let out = c.if-not-bury.ensures.tried.1 in
    let faded = c.if-not-fade.ensures.faded out.mark.number (c.empty.ensures.number (version_of out.mark) (out.spot, out.room, out.me_is, out.version)) in
    (out.mark.number, faded.0, faded.1)

pub free-requires-clause-restored : goal.free-requires-clause-restored
free-requires-clause-restored g c =
    let out = c.if-not-bury.ensures.tried.1 in
    let faded = c.if-not-fade.ensures.faded out.mark.number (c.empty.ensures.number (version_of out.mark) (out.spot, out.room, out.me_is, out.version)) in
    (out.mark.number, c.reset.ensures.restored out.mark.number faded.0, c.reset.ensures.seat.2)

pub end-requires-2 : goal.end-requires-2
end-requires-2 g c =
    let out = c.if-not-bury.ensures.tried.1 in
    let faded = c.if-not-fade.ensures.faded out.mark.number (c.empty.ensures.number (version_of out.mark) (out.spot, out.room, out.me_is, out.version)) in
    let freed = c.free.ensures.freed out.mark.number (c.reset.ensures.restored out.mark.number faded.0) in
    subst (IsReleased g.C.Names.begins g.C.Follows.follows) (sym freed) (version_of out.mark, refl, out.older)
