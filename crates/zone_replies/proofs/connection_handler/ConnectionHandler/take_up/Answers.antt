-- Where it waits, what is known on its connection is what was known before; else it gets its reply at once.
use Rattle.std.proofs.Common.{◌≡◌, [], ◌∷◌, None, take, refl, sym, subst}
use Rattle.zone_tree.specs.Version.{Version}
use Rattle.tcp_connections.specs.Requests.{EachGrows}
use Rattle.zone_replies.specs.State.{PendingState, HandlerState}
use Rattle.zone_replies.specs.PendingUpdates.{known_at, place_in, IsLater, IsMadeBy}
use Rattle.zone_replies.proofs.PendingLemmas.{made_all, made_grows, begun_all, begun_grows, made_none, room_if}
use Rattle.zone_replies.proofs.PendingRepliedLemmas.{meets_grows, meets_taken, later_made}
use Rattle.zone_replies.proofs.connection_handler.ConnectionHandler.take_up.Goals as goal

pub invariant_of-self : goal.invariant_of-self
invariant_of-self g c =
    let room = c.make_room-has_room.ensures.none in
    made_all c.self.inside.reader c.submit_stream.new.reader c.in-Replied.ensures.submitted.grows c.self.inside.taken c.self.inside.asker c.make_room-has_room.new.self room.0 room.1 c.self.invariant

pub invariant_of-self-in-Pending : goal.invariant_of-self-in-Pending
invariant_of-self-in-Pending g c =
    let room = c.make_room-has_room.ensures.none in
    let first = g.Z.FirstZone.zone in
    let one : PendingState = record { from = c.self.inside.from; ticket = c.in-Pending.ticket; more = c.new.result.items; number = c.in-Pending.number; known = c.of-known.result.value } in
    begun_all c.self.inside.reader c.submit_stream.new.reader (meets_grows first c.self.inside.reader c.submit_stream.new.reader c.in-Pending.number c.in-Pending.ensures.submitted) c.self.inside.taken c.make_room-has_room.new.self c.put.new.self c.self.inside.asker room.0 one room.1 c.put.ensures
    (meets_taken first c.self.inside.reader c.submit_stream.new.reader c.in-Pending.number one c.in-Pending.ensures.submitted c.of-known.ensures refl) c.self.invariant

pub returns-in-Replied-clause-grows : goal.returns-in-Replied-clause-grows
returns-in-Replied-clause-grows g c =
    let room = c.make_room-has_room.ensures.none in
    subst (λ (s : HandlerState). EachGrows {T = Version} (known_at c.make_room-has_room.new.self c.submit_stream.new.reader) (known_at s.taken s.reader)) c.self.view_is
    (made_grows c.self.inside.reader c.submit_stream.new.reader c.in-Replied.ensures.submitted.grows c.self.inside.taken c.self.inside.asker c.make_room-has_room.new.self room.0 room.1)

pub returns-in-Replied-clause-replied : goal.returns-in-Replied-clause-replied
returns-in-Replied-clause-replied g c = λ _.
    let none : place_in c.self.inside.taken c.self.inside.asker ≡ None = subst (λ (s : HandlerState). place_in s.taken s.asker ≡ None) (sym c.self.view_is) c.requires.none in
    let later : IsLater c.self.inside.peer c.args.request.now = subst (λ (s : HandlerState). IsLater s.peer c.args.request.now) (sym c.self.view_is) c.requires.later in
    subst (λ (s : HandlerState). IsMadeBy g.Z.FirstZone.zone s.peer (known_at s.taken s.reader s.asker) (known_at c.make_room-has_room.new.self c.submit_stream.new.reader s.asker) c.args.request.now (take c.in-Replied.len c.submit_stream.new.out ∷ [])) c.self.view_is
    (later_made g.Z.FirstZone.zone c.self.inside.peer c.self.inside.taken c.make_room-has_room.new.self c.self.inside.reader c.submit_stream.new.reader c.self.inside.asker c.args.request.now (take c.in-Replied.len c.submit_stream.new.out ∷ []) later none c.in-Replied.ensures.submitted.replied)

pub returns-in-Pending-clause-grows : goal.returns-in-Pending-clause-grows
returns-in-Pending-clause-grows g c =
    let room = c.make_room-has_room.ensures.none in
    let first = g.Z.FirstZone.zone in
    let none : place_in c.self.inside.taken c.self.inside.asker ≡ None = subst (λ (s : HandlerState). place_in s.taken s.asker ≡ None) (sym c.self.view_is) c.requires.none in
    let one : PendingState = record { from = c.self.inside.from; ticket = c.in-Pending.ticket; more = c.new.result.items; number = c.in-Pending.number; known = c.of-known.result.value } in
    subst (λ (s : HandlerState). EachGrows {T = Version} (known_at c.put.new.self c.submit_stream.new.reader) (known_at s.taken s.reader)) c.self.view_is
    (begun_grows c.self.inside.reader c.submit_stream.new.reader (meets_grows first c.self.inside.reader c.submit_stream.new.reader c.in-Pending.number c.in-Pending.ensures.submitted) c.self.inside.taken c.make_room-has_room.new.self c.put.new.self c.self.inside.asker room.0 one room.1 c.put.ensures
    c.of-known.ensures none)

-- it waits only where there was room for it
pub put-requires-clause-room : goal.put-requires-clause-room
put-requires-clause-room g c = room_if c.make_room-has_room.result _ c.make_room-has_room.ensures.room (λ lacks. c.in-Pending.ensures.unsent (c.sender_with-sender.ensures lacks))

pub put-requires-clause-none : goal.put-requires-clause-none
put-requires-clause-none g c =
    let room = c.make_room-has_room.ensures.none in
    let none : place_in c.self.inside.taken c.self.inside.asker ≡ None = subst (λ (s : HandlerState). place_in s.taken s.asker ≡ None) (sym c.self.view_is) c.requires.none in
    made_none c.self.inside.taken c.make_room-has_room.new.self c.self.inside.asker room.0 room.1 none
