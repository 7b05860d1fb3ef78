use Rattle.std.proofs.Common.{sym, ap, ◌∙◌, [], ◌∷◌, arith}
use Rattle.counted_handles.specs.declared.view.View.TheVariants.{Has}
use Rattle.counted_handles.proofs.Rights.{return_right}
use Rattle.counted_handles.proofs.CallLemmas.{only_one}
use Rattle.counted_handles.proofs.calls.give_up.Goals as goal

pub unclaim-requires : goal.unclaim-requires
unclaim-requires g c =
    let has = c.requires.has in
    (omega (arith, c.requires.fits.0.1, c.requires.fits.1), ap (λ s. s.views) has.1 ∙ has.3, return_right g.C.Names.begins g.C.Follows.follows c.args.words.now.key.places.items c.args.held.id c.args.slot has.0 c.args.held.stake has.1 has.2)

pub returns-clause-has : goal.returns-clause-has
returns-clause-has g c mark is =
    let view = only_one c.into_seat.result.me.0 (Has mark) (sym c.into_seat.ensures.2 ∙ c.unclaim.ensures.2 ∙ ap (λ s. s.key ∷ []) is) in
    λ i. (view i, c.into_seat.ensures.3 i)
