-- Updates submitted on connections, which are still pending (RFC 2136, 3; own).
use Rattle.std.specs.Prelude.{◌≡◌, ◌⊎◌, ◌<◌, ◌≤◌, ◌+◌, ℕ, true, List, [], ◌∷◌, ◌++◌, length, Option, None, Some}
use Rattle.std.specs.List.{All, slice_get}
use Rattle.std.specs.declared.net.socket_addr.SocketAddr.{SocketAddr}
use Rattle.dns_message.specs.Request.{is_update}
use Rattle.dns_rdata.specs.Record.{Record}
use Rattle.dns_rdata.specs.declared.numbers.Rcode.TheVariants.{ServFail}
use Rattle.dns_message.specs.Octets.{fit}
use Rattle.zone_tree.specs.Version.{Version}
use Rattle.snapshot_cell.specs.Tokens.{ReaderState}
use Rattle.requests.specs.Served.{Learned, Grows}
use Rattle.tcp_connections.specs.Served.{Knowledge, IsMade}
use Rattle.serve_core.specs.declared.peer.Peer.{Peer}
use Rattle.serve_core.specs.Heading.{heading_of_update, coded}
use Rattle.serve_core.specs.Transport.{limit_of}
use Rattle.zone_server.specs.declared.update_result.UpdateResult.{UpdateResult}
use Rattle.zone_server.specs.declared.update_result.Poll.{Poll}
use Rattle.zone_server.specs.declared.update_result.Poll.TheVariants.{Unknown, Pending, Ready}
use Rattle.zone_server.specs.declared.answer.UpdateOutcome.{UpdateOutcome}
use Rattle.zone_server.specs.Known.{learned_by}
use Rattle.zone_server.specs.Replied.{IsReplied}
use Rattle.zone_server.specs.declared.open_ticket.WaitingTicket.{WaitingTicket}
use Rattle.zone_replies.specs.State.{PendingState}
use Rattle.zone_replies.specs.declared.pending_updates.ReplyPlace.{ReplyPlace}

-- what was known when the first of the updates that wait together on a connection was submitted, or what the reader has learned where none is pending
abbrev pub asked_of : Option (Option PendingState) → ReaderState Version → Learned Version
asked_of None reader = learned_by reader
asked_of (Some None) reader = learned_by reader
asked_of (Some (Some taken)) reader = learned_by taken.known

-- what is known on the connection under a key: that, and what the reader has learned
abbrev pub known_at : List (Option PendingState) → ReaderState Version → ℕ → Knowledge Version
known_at taken reader key = record { asked = asked_of (slice_get taken key) reader; latest = learned_by reader }

-- where the reply to the first pending update of an entry will be, if it has one
abbrev pub place_of : Option (Option PendingState) → Option ReplyPlace
place_of None = None
place_of (Some None) = None
place_of (Some (Some taken)) = Some (record { from = taken.from; number = taken.number })

abbrev pub place_in : List (Option PendingState) → ℕ → Option ReplyPlace
place_in taken key = place_of (slice_get taken key)

-- the pending updates of an entry, if it has some
abbrev pub entry_of : Option (Option PendingState) → Option PendingState
entry_of None = None
entry_of (Some entry) = entry

-- those under a key
abbrev pub entry_in : List (Option PendingState) → ℕ → Option PendingState
entry_in taken key = entry_of (slice_get taken key)

-- the updates that are pending once the first one has its reply: those with these tickets, if there are any
abbrev pub after_first : SocketAddr → ℕ → ReaderState Version → List WaitingTicket → Option PendingState
after_first from number known [] = None
after_first from number known (ticket ∷ more) = Some (record { from = from; ticket = ticket; more = more; number = number; known = known })

-- the updates that are pending once the first one's result was fetched: all of them while that isn't there yet, otherwise those after it
abbrev pub left_of : Poll → PendingState → Option PendingState
left_of Pending taken = Some taken
left_of Unknown taken = after_first taken.from taken.number taken.known taken.more
left_of (Ready done) taken = after_first taken.from taken.number taken.known taken.more

-- those of an entry
abbrev pub left_in : Poll → Option (Option PendingState) → Option PendingState
left_in poll None = None
left_in poll (Some None) = None
left_in poll (Some (Some taken)) = left_of poll taken

-- the tickets of the updates after the first one of an entry, if one is pending
abbrev pub more_of : Option (Option PendingState) → Option (List WaitingTicket)
more_of None = None
more_of (Some None) = None
more_of (Some (Some taken)) = Some taken.more

-- pending updates with more after them
abbrev pub with_more : PendingState → List WaitingTicket → PendingState
with_more taken more = record taken { more = taken.more ++ more }

-- updates are pending: the reader has forgotten nothing that was known when the first was submitted, and what was known to be published then
-- isn't newer than the version of its number
pub record IsTakenUp (reader : ReaderState Version) (taken : PendingState) : Type 0 where
  pub grown : Grows (learned_by reader) (learned_by taken.known)
  pub number : length taken.known.seen ≤ taken.number + 1

-- an entry has no update, or pending ones
abbrev pub IsEntry : ReaderState Version → Option PendingState → Type 0
IsEntry reader None = Unit {0}
IsEntry reader (Some taken) = IsTakenUp reader taken

-- each entry has no update, or pending ones
abbrev pub AreTakenUp : List (Option PendingState) → ReaderState Version → Type 0
AreTakenUp taken reader = All (IsEntry reader) taken

-- a request that may be answered later: an update of a peer that may update
abbrev pub IsLater : Peer → List ℕ → Type 0
IsLater peer request = (is_update request ≡ true) × (peer.may_update ≡ true)

-- the outcome of a pending update: the code and the serials of its result, or SERVFAIL and no serials where it was judged in a version older than the last
-- that was published when it was submitted
abbrev pub IsToldAt : ReplyPlace → UpdateResult → UpdateOutcome → Type 0
IsToldAt place done reported =
    ((place.number ≤ done.least) × (reported.code ≡ done.code) × (reported.serials ≡ done.serials)) ⊎ ((done.least < place.number) × (reported.code ≡ ServFail) × (reported.serials ≡ None))

-- the octets of the reply to a pending update: its heading with the code of its result, or with SERVFAIL where it was judged in a version older than the last
-- that was published when it was submitted
abbrev pub IsWritten : Peer → ReplyPlace → UpdateResult → List ℕ → Type 0
IsWritten peer place done octets =
    ((place.number ≤ done.least) × (octets ≡ fit (coded (heading_of_update done.asked.update) done.code) (limit_of peer.transport None)))
    ⊎ ((done.least < place.number) × (octets ≡ fit (coded (heading_of_update done.asked.update) ServFail) (limit_of peer.transport None)))

-- the reply to a request on a connection, by what is known on it before and when the reply is made, is that of the running server
abbrev pub IsMadeBy : List Record → Peer → Knowledge Version → Knowledge Version → List ℕ → List (List ℕ) → Type 0
IsMadeBy first peer before later request messages = IsMade (IsReplied first peer) (IsLater peer) before later request messages
