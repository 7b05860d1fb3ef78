-- Nothing that was known is forgotten.
use Rattle.signed_replies.proofs.ConnectionLemmas.{asked_grows}
use Rattle.signed_replies.proofs.prepared.prepare_as.Goals as goal

pub returns : goal.returns
returns g c =
    let seen = g.A.Handler.seen in
    record {
      grows = asked_grows (seen c.args.inner.now) (seen c.turn_to.new.self) (seen c.set_peer.new.self) (seen c.prepare.new.self) c.turn_to.ensures.grows c.set_peer.ensures.same c.prepare.ensures.grows;
    }
