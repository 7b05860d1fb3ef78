use Rattle.std.proofs.Common.{refl, sym, ◌∙◌, subst}
use Rattle.counted_handles.specs.declared.view.View.TheVariants.{HasWeakly}
use Rattle.counted_handles.specs.Lapses.{IsLapsed}
use Rattle.counted_handles.proofs.CallLemmas.{only_one}
use Rattle.counted_handles.proofs.Lapsings.{last_faded, ends_faded}
use Rattle.counted_handles.proofs.lapsed.Lapsed.of.Goals as goal

pub fade-lapsing-requires-clause-has : goal.fade-lapsing-requires-clause-has
fade-lapsing-requires-clause-has g c =
    let has = c.requires.has in
    let seat = c.into_seat-seat in
    let view = only_one seat.result.me.0 (HasWeakly has.0) (sym seat.ensures.2 ∙ has.1) in
    (has.0, (λ i. (view i, seat.ensures.3 i)), has.2)

pub end-requires : goal.end-requires
end-requires g c = ends_faded c.args.slot c.fade-lapsing.result c.fade-lapsing.new.seat.me (λ e. let no = c.if-not-is_last.ensures.1 e in cc) c.fade-lapsing.ensures.faded

pub make_free-requires-clause-last : goal.make_free-requires-clause-last
make_free-requires-clause-last g c =
    let one = c.if-not-is_last.ensures.0 refl in
    (one, last_faded c.args.slot c.fade-lapsing.result c.fade-lapsing.new.seat.me one c.fade-lapsing.ensures.faded)

pub end-requires-2 : goal.end-requires-2
end-requires-2 g c = subst IsLapsed (sym c.make_free.ensures.freed) tt
