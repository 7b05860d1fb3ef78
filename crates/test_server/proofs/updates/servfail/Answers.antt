-- SERVFAIL may be the result in the version that was published last.
use Rattle.std.proofs.Common.{refl, arith}
use Rattle.test_server.proofs.DoneLemmas.{servfail_done}
use Rattle.test_server.proofs.updates.servfail.Goals as goal

pub returns : goal.returns
returns g c =
    servfail_done g.Z.FirstZone.zone c.args.state.now.held.published c.args.state.now.held.last c.number-least.ensures.latest c.number-least.ensures.replayed _ refl refl
    (omega (arith, c.number-least.ensures.number))
