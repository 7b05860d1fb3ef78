-- What is abandoned leaves what the reader has learned.
use Rattle.std.proofs.Common.{◌≡◌, None, subst}
use Rattle.zone_tree.specs.Version.{Version}
use Rattle.requests.proofs.TurnLemmas.{grows_itself}
use Rattle.tcp_connections.specs.Requests.{EachGrows}
use Rattle.zone_server.specs.Known.{learned_by}
use Rattle.zone_replies.specs.State.{HandlerState}
use Rattle.zone_replies.specs.PendingUpdates.{known_at, place_in}
use Rattle.zone_replies.proofs.PendingLemmas.{gone_grows, gone_none}
use Rattle.zone_replies.proofs.connection_handler.ConnectionHandler.abandon.Goals as goal

pub returns-clause-grows : goal.returns-clause-grows
returns-clause-grows g c =
    let reader = c.self.inside.reader in
    subst (λ (s : HandlerState). EachGrows {T = Version} (known_at c.leave.new.self reader) (known_at s.taken s.reader)) c.self.view_is
    (gone_grows reader reader (grows_itself (learned_by reader)) c.self.inside.taken c.self.inside.asker c.leave.new.self c.leave.ensures c.self.invariant)

pub returns-clause-none : goal.returns-clause-none
returns-clause-none g c =
    let reader = c.self.inside.reader in
    subst (λ (s : HandlerState). place_in c.leave.new.self s.asker ≡ None) c.self.view_is
    (gone_none reader reader (grows_itself (learned_by reader)) c.self.inside.taken c.self.inside.asker c.leave.new.self c.leave.ensures)
