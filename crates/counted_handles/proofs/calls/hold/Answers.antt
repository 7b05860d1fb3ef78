use Rattle.std.proofs.Common.{sym, ap, ◌∙◌, subst, [], ◌∷◌, arith}
use Rattle.counted_handles.specs.declared.view.View.TheVariants.{Has}
use Rattle.counted_handles.specs.Tells.{IsClaimed}
use Rattle.counted_handles.proofs.Rights.{hold_right}
use Rattle.counted_handles.proofs.CallLemmas.{only_one}
use Rattle.counted_handles.proofs.calls.hold.Goals as goal

pub claim-requires : goal.claim-requires
claim-requires g c =
    let has = c.requires.has in
    let are = c.requires.spots in (
      c.into_badge.ensures.0 ∙ c.requires.fits,
      omega (arith, has.4, are.fits.1),
      (Has has.0, c.into_badge.ensures.2 ∙ ap (λ m. m.0 ∷ []) has.1, hold_right g.C.Names.begins g.C.Follows.follows c.args.words.now.key.places.items c.into_badge.result.id c.args.slot _ has.0 c.args.spots.now.places.items c.index.result.now has.2 has.3 (λ i. (are.same i).places.items) (omega (arith, are.size, has.4)) c.index.ensures),
    )

pub returns-clause-held : goal.returns-clause-held
returns-clause-held g c mark is =
    let key = only_one c.claim.result.stake.key (Has mark) (sym c.claim.ensures.2 ∙ c.into_badge.ensures.2 ∙ ap (λ m. m.0 ∷ []) is) in
    subst (λ v. IsClaimed v c.claim.result.stake c.claim.result.value) key c.claim.ensures.5
