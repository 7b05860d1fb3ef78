use Rattle.std.proofs.Common.{subst, arith}
use Rattle.counted_handles.specs.Plays.{FadeTells}
use Rattle.counted_handles.specs.Tells.{Sat}
use Rattle.counted_handles.proofs.CallLemmas.{fade_allowed}
use Rattle.counted_handles.proofs.calls.fade.Goals as goal

pub fetch_sub-requires : goal.fetch_sub-requires
fetch_sub-requires g c =
    let whole = c.requires.whole in
    (c.requires.fits.1, omega (arith, c.requires.fits.0.0, whole.3), fade_allowed g.C.Names.begins g.C.Follows.follows c.args.words.now.key.places.items _ c.args.seat.now.id _ c.args.slot whole.0 whole.1 c.args.seat.now.me c.requires.fits.0.1 (omega arith) whole.2 whole.4 whole.5 whole.6)

pub returns-clause-faded : goal.returns-clause-faded
returns-clause-faded g c = subst (λ (m : Sat g.row.T.Denot). FadeTells m.0 c.fetch_sub.result c.fetch_sub.new.seat.me) c.requires.whole.2 c.fetch_sub.ensures.2
