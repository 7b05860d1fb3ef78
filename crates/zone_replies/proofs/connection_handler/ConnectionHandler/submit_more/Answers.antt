-- What was known when the first of those that wait together was submitted stays, whatever tickets are there after it.
use Rattle.std.proofs.Common.{◌≡◌, Some, sym, ◌∙◌, subst}
use Rattle.zone_tree.specs.Version.{Version}
use Rattle.requests.proofs.TurnLemmas.{grows_itself}
use Rattle.tcp_connections.specs.Requests.{EachGrows}
use Rattle.zone_server.specs.Known.{learned_by}
use Rattle.zone_replies.specs.State.{HandlerState}
use Rattle.zone_replies.specs.PendingUpdates.{known_at, entry_in}
use Rattle.zone_replies.proofs.PendingLemmas.{gone_all, gone_grows, back_all, back_grows, out_none, place_within, set_length}
use Rattle.zone_replies.proofs.connection_handler.ConnectionHandler.submit_more.Goals as goal

pub put-requires-clause-none : goal.put-requires-clause-none
put-requires-clause-none g c = out_none c.self.inside.taken c.take.new.self c.self.inside.asker c.take.ensures.rest

pub put-requires-clause-room : goal.put-requires-clause-room
put-requires-clause-room g c = set_length c.self.inside.taken c.take.new.self c.self.inside.asker c.take.ensures.rest (place_within c.self.inside.taken c.self.inside.asker c.in-Some.pending (sym c.in-Some.is ∙ c.take.ensures.taken))

pub invariant_of-self : goal.invariant_of-self
invariant_of-self g c =
    let reader = c.self.inside.reader in
    gone_all reader reader (grows_itself (learned_by reader)) c.self.inside.taken c.self.inside.asker c.take.new.self c.take.ensures.rest c.self.invariant

pub returns-in_default-clause-grows : goal.returns-in_default-clause-grows
returns-in_default-clause-grows g c =
    let reader = c.self.inside.reader in
    subst (λ (s : HandlerState). EachGrows {T = Version} (known_at c.take.new.self reader) (known_at s.taken s.reader)) c.self.view_is
    (gone_grows reader reader (grows_itself (learned_by reader)) c.self.inside.taken c.self.inside.asker c.take.new.self c.take.ensures.rest c.self.invariant)

pub invariant_of-self-2 : goal.invariant_of-self-2
invariant_of-self-2 g c =
    let more = c.submit_after-pending.ensures.pending in
    back_all c.self.inside.reader c.submit_after-pending.new.reader c.submit_after-pending.ensures.grows c.self.inside.taken c.self.inside.asker c.take.new.self c.put.new.self c.in-Some.pending c.submit_after-pending.result.0 more.0 (sym c.in-Some.is ∙ c.take.ensures.taken) c.take.ensures.rest c.put.ensures more.1 c.self.invariant

pub returns-clause-grows : goal.returns-clause-grows
returns-clause-grows g c =
    let more = c.submit_after-pending.ensures.pending in
    subst (λ (s : HandlerState). EachGrows {T = Version} (known_at c.put.new.self c.submit_after-pending.new.reader) (known_at s.taken s.reader)) c.self.view_is
    (back_grows c.self.inside.reader c.submit_after-pending.new.reader c.submit_after-pending.ensures.grows c.self.inside.taken c.self.inside.asker c.take.new.self c.put.new.self c.in-Some.pending c.submit_after-pending.result.0 more.0 (sym c.in-Some.is ∙ c.take.ensures.taken) c.take.ensures.rest c.put.ensures more.1)
