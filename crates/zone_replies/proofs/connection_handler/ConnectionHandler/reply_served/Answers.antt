-- What the reader has learned grows, and what was known when an update was taken up stays.
use Rattle.std.proofs.Common.{subst}
use Rattle.zone_tree.specs.Version.{Version}
use Rattle.requests.specs.Served.{Grows}
use Rattle.zone_server.specs.Known.{learned_by}
use Rattle.zone_server.proofs.NowLemmas.{told_grows}
use Rattle.zone_replies.specs.State.{HandlerState}
use Rattle.zone_replies.proofs.PendingLemmas.{taken_grow}
use Rattle.zone_replies.proofs.connection_handler.ConnectionHandler.reply_served.Goals as goal

pub invariant_of-self : goal.invariant_of-self
invariant_of-self g c =
    let reported = c.serve_update-len.ensures.reported in
    taken_grow c.self.inside.taken c.self.inside.reader c.serve_update-len.new.reader
    (told_grows g.Z.FirstZone.zone c.self.inside.peer.may_update c.args.request.now c.self.inside.reader c.serve_update-len.new.reader reported.heading c.serve_update-len.result.1 reported.tells) c.self.invariant

pub returns-clause-grows : goal.returns-clause-grows
returns-clause-grows g c =
    let reported = c.serve_update-len.ensures.reported in
    subst (λ (s : HandlerState). Grows {T = Version} (learned_by c.serve_update-len.new.reader) (learned_by s.reader)) c.self.view_is
    (told_grows g.Z.FirstZone.zone c.self.inside.peer.may_update c.args.request.now c.self.inside.reader c.serve_update-len.new.reader reported.heading c.serve_update-len.result.1 reported.tells)
