-- What a reply sender was given for updates that waited (RFC 2136, 3.8).
use Rattle.tsig.specs.declared.request_tsig.RequestTsig.{RequestTsig}
use Rattle.std.specs.Prelude.{◌≡◌, ◌≤◌, ℕ, true, List, [], ◌∷◌, ◌++◌, length, drop, Option, None, option_map}
use Rattle.std.specs.declared.net.socket_addr.SocketAddr.{SocketAddr}
use Rattle.dns_rdata.specs.Record.{Record}
use Rattle.dns_rdata.specs.declared.numbers.Rcode.{Rcode}
use Rattle.dns_message.specs.Octets.{fit}
use Rattle.zone_tree.specs.Version.{Version}
use Rattle.serve_core.specs.declared.peer.Peer.{Peer}
use Rattle.serve_core.specs.declared.transport.Transport.TheVariants.{Udp}
use Rattle.serve_core.specs.Heading.{heading_of_update, coded}
use Rattle.serve_core.specs.Transport.{limit_of}
use Rattle.update_batches.specs.declared.update_request.UpdateRequest.{UpdateRequest}
use Rattle.update_batches.specs.declared.verdict.Verdict.{Verdict}
use Rattle.update_batches.specs.Results.{first_verdict}
use Rattle.zone_server.specs.declared.outgoing.Outgoing.{Outgoing}
use Rattle.zone_server.specs.declared.outgoing.Outgoing.TheVariants.{Wake, Send}
use Rattle.zone_server.specs.declared.update_result.QueuedResult.{QueuedResult}
use Rattle.zone_server.specs.declared.update_result.UpdateResult.{UpdateResult}
use Rattle.zone_server.specs.PendingReplies.{receipt_for}
use Rattle.requests.specs.Served.{Learned}
use Rattle.zone_server.specs.Replied.{IsReplied}
use Rattle.update_batches.specs.declared.queued_update.QueuedUpdate.{QueuedUpdate}
use Rattle.update_batches.specs.declared.queued_update.ReplyTo.{ReplyTo}
use Rattle.update_batches.specs.declared.queued_update.ReplyTo.TheVariants.{Connection, Datagram}

-- the list after these were appended, if it is kept
abbrev pub brought_after : {T : Type 0} → Option (List T) → List T → Option (List T)
brought_after old more = option_map (λ before. before ++ more) old

-- a worker was given the key of a connection, or a datagram was sent from a worker's socket, to be signed as the reply to a request with this TSIG, if it was signed
pub data Brought : Type 0 where
  key_to : (worker key : ℕ) → Brought
  sent_by : (worker : ℕ) (to : SocketAddr) (tsig : Option RequestTsig) (octets : List ℕ) → Brought

-- octets are the reply by datagram to a request, for any peer that may update, if the peer knew no more than was published when the batch was begun (RFC 2136, 3 and 3.8)
abbrev pub IsReplyTo : List Record → List Version → ℕ → List ℕ → List ℕ → Type 0
IsReplyTo first seen begun request octets =
    (peer : Peer) (known : Learned Version) → peer.transport ≡ Udp → peer.may_update ≡ true → length known.published ≤ begun
    → IsReplied first peer known (record { published = seen; buried = [] }) request (octets ∷ [])

-- the message with a code for an update, by datagram (RFC 2136, 3.8)
abbrev pub coded_reply : UpdateRequest → Rcode → List ℕ
coded_reply request code = fit (coded (heading_of_update request.update) code) (limit_of Udp None)

-- what the reply sender gets for an update with a code: the connection's key for its worker, or the reply, to be sent from the socket that received the update
abbrev pub brought_by : ReplyTo → UpdateRequest → Rcode → Brought
brought_by (Connection worker key ticket) request code = key_to worker key
brought_by (Datagram worker to tsig) request code = sent_by worker to tsig (coded_reply request code)

-- the same for a result
abbrev pub brought_for : QueuedResult → Brought
brought_for result = brought_by result.reply_to result.done.asked result.done.code

-- what is left to be done for the reply of a result: the worker of its connection is woken, by the receipt that the result was put at the update's own ticket; or a datagram is sent
abbrev pub outgoing_by : ReplyTo → UpdateResult → Outgoing
outgoing_by (Connection worker key ticket) done = Wake worker key (receipt_for ticket done)
outgoing_by (Datagram worker to tsig) done = Send worker to tsig done

abbrev pub outgoing_for : QueuedResult → Outgoing
outgoing_for result = outgoing_by result.reply_to result.done

-- what the reply sender gets for what is left to be done for a reply
abbrev pub brought_from : Outgoing → Brought
brought_from (Wake worker key at) = key_to worker key
brought_from (Send worker to tsig done) = sent_by worker to tsig (coded_reply done.asked done.code)

-- the same for a batch, each update of it with its verdict, SERVFAIL where there are too few
abbrev pub all_brought : List Verdict → List QueuedUpdate → List Brought
all_brought verdicts [] = []
all_brought verdicts (one ∷ batch) = brought_by one.reply_to one.request (first_verdict verdicts).code ∷ all_brought (drop 1 verdicts) batch

-- the message with the code of its verdict is the reply by datagram to each update of a batch that is one message
abbrev pub AreReplies : List Record → List Version → ℕ → List Verdict → List QueuedUpdate → Type 0
AreReplies first seen begun verdicts [] = Unit {0}
AreReplies first seen begun verdicts (one ∷ batch) =
    ((octets : List ℕ) → one.request.messages ≡ octets ∷ [] → IsReplyTo first seen begun octets (coded_reply one.request (first_verdict verdicts).code)) × AreReplies first seen begun (drop 1 verdicts) batch
