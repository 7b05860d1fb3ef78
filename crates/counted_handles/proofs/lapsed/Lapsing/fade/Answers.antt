use Rattle.std.proofs.Common.{subst, arith}
use Rattle.counted_handles.specs.Plays.{FadeTells}
use Rattle.counted_handles.specs.Tells.{Sat, Faded}
use Rattle.counted_handles.proofs.HostLemmas.{lapse_allowed}
use Rattle.counted_handles.proofs.lapsed.Lapsing.fade.Goals as goal

pub fetch_sub-found-requires : goal.fetch_sub-found-requires
fetch_sub-found-requires g c =
    let has = c.requires.has in
    let fits = c.requires.fits in
    (fits.1, omega (arith, fits.0.0, fits.2), lapse_allowed g.C.Names.begins g.C.Follows.follows c.args.words.now.key.places.items _ c.args.seat.now.id _ c.args.seat.now.me has.0 fits.0.1 (omega (arith, has.2)) has.1)

pub returns-clause-faded : goal.returns-clause-faded
returns-clause-faded g c =
    let has = c.requires.has in
    subst (λ k. Faded k c.fetch_sub-found.result c.fetch_sub-found.new.seat.me) has.2 (subst (λ (m : Sat g.row.T.Denot). FadeTells m.0 c.fetch_sub-found.result c.fetch_sub-found.new.seat.me) has.1 c.fetch_sub-found.ensures.2)
