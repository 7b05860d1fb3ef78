-- What a reader has seen when an update is queued (own).
use Rattle.std.specs.Prelude.{◌≡◌, ◌≤◌, ◌⊎◌, ◌+◌, ◌*◌, ℕ, true, List, [], ◌∷◌, length, take, None}
use Rattle.dns_rdata.specs.Record.{Record}
use Rattle.dns_rdata.specs.declared.numbers.Rcode.TheVariants.{ServFail}
use Rattle.dns_message.specs.Octets.{fit}
use Rattle.dns_message.specs.Request.{is_update, reads}
use Rattle.zone_tree.specs.Version.{Version}
use Rattle.snapshot_cell.specs.Tokens.{ReaderState}
use Rattle.dns_engine.specs.Held.{EngineState}
use Rattle.journal.specs.Batch.{octets_in}
use Rattle.update_batches.specs.declared.update_request.UpdateRequest.{UpdateRequest}
use Rattle.serve_core.specs.declared.peer.Peer.{Peer}
use Rattle.serve_core.specs.declared.heading.Heading.{Heading}
use Rattle.serve_core.specs.Heading.{coded}
use Rattle.serve_core.specs.Served.{limit_for}
use Rattle.serve_core.specs.Transport.{limit_of}
use Rattle.zone_server.specs.declared.server_state.BatchStart.{BatchStart}
use Rattle.requests.specs.Served.{Learned, Grows}
use Rattle.zone_server.specs.Known.{learned_by, HasMet}
use Rattle.zone_server.specs.Replied.{IsReplied}
use Rattle.zone_server.specs.declared.submit.Submitted.{Submitted}
use Rattle.zone_server.specs.declared.submit.Submitted.TheVariants.{Replied as AtOnce, Pending as IsPut}
use Rattle.zone_server.specs.declared.submit.DatagramSubmitted.{DatagramSubmitted}
use Rattle.zone_server.specs.declared.submit.DatagramSubmitted.TheVariants.{Replied as AtOnceByDatagram, Pending as IsPutByDatagram}
use Rattle.zone_server.specs.declared.answer.UpdateOutcome.{UpdateOutcome}
use Rattle.zone_server.specs.Updated.{IsToldUnread}

-- how many bytes of memory a queued update is counted for: those of its messages, and 320 for each record read from them (own)
abbrev pub memory_of : UpdateRequest → ℕ
memory_of asked = octets_in asked.messages + (length asked.update.prerequisites + length asked.update.updates) * 320

-- a reader meets everything published, whose last version has this number, without a grant (own)
abbrev pub MeetsAt : List Record → ReaderState Version → ReaderState Version → ℕ → Type 0
MeetsAt first before after number = (engine : EngineState) × HasMet first engine before after × (engine.held.last.number ≡ number)

-- a batch is begun: a reader meets everything published, whose last version is the one in which the batch is to be judged, and so many more versions are sure to find room
-- (own)
abbrev pub IsBegun : List Record → ReaderState Version → ReaderState Version → BatchStart → Type 0
IsBegun first before after begun =
    (engine : EngineState) × HasMet first engine before after × (engine.held.last ≡ begun.last) × (engine.held.last.number ≡ begun.number) × (engine.free ≡ begun.room)

-- the outcome of an update that isn't judged is that of its reply: of one that can't be read what that gets, else SERVFAIL and no serials (own)
abbrev pub IsRefusedWith : Peer → List ℕ → List ℕ → UpdateOutcome → Type 0
IsRefusedWith peer request octets outcome =
    (heading : Heading) × (octets ≡ fit (coded heading outcome.code) (limit_of peer.transport None)) × (IsToldUnread request heading outcome ⊎ ((outcome.code ≡ ServFail) × (outcome.serials ≡ None)))

-- an update gets a reply of so many octets at once, with this outcome, and its reader forgets nothing that it had seen (own)
pub record IsRepliedAtOnce (first : List Record) (peer : Peer) (request : List ℕ) (before after : ReaderState Version) (out : List ℕ) (len : ℕ) (reported : UpdateOutcome) : Type 0 where
  pub bound : len ≤ limit_for peer.transport (reads request)
  pub replied : IsReplied first peer (learned_by before) (learned_by after) request (take len out ∷ [])
  pub outcome : IsRefusedWith peer request (take len out) reported
  pub grows : Grows (learned_by after) (learned_by before)

-- the result of submitting an update: it gets a reply at once, or it is queued, and the reader has met everything published until then, whose last version has this number
-- (own)
abbrev pub IsSubmitted : List Record → Peer → List ℕ → ReaderState Version → ReaderState Version → List ℕ → Submitted → Type 0
IsSubmitted first peer request before after out (AtOnce len outcome) = IsRepliedAtOnce first peer request before after out len outcome
IsSubmitted first peer request before after out (IsPut ticket number put) = MeetsAt first before after number

-- there is a reply now
abbrev pub HasReply : Submitted → Type 0
HasReply (AtOnce len outcome) = Unit {0}
HasReply (IsPut ticket number put) = ⊥

-- the same for an update that came by datagram: there is no reply now if it is queued
abbrev pub IsDatagramSubmitted : List Record → Peer → List ℕ → ReaderState Version → ReaderState Version → List ℕ → DatagramSubmitted → Type 0
IsDatagramSubmitted first peer request before after out (AtOnceByDatagram len outcome) = IsRepliedAtOnce first peer request before after out len outcome
IsDatagramSubmitted first peer request before after out (IsPutByDatagram put) = after ≡ before

-- an update of a peer that may update is submitted, and gets no reply now (own)
pub record IsPassedOn (peer : Peer) (request : List ℕ) (messages : List (List ℕ)) : Type 0 where
  pub none : messages ≡ []
  pub update : is_update request ≡ true
  pub may : peer.may_update ≡ true

-- an answer to a datagram: the reply, or none if it is an update that was submitted
abbrev pub IsAnswered : List Record → Peer → Learned Version → Learned Version → List ℕ → List (List ℕ) → Type 0
IsAnswered first peer known later request messages = IsReplied first peer known later request messages ⊎ IsPassedOn peer request messages
