-- What is answered at once, what of an update, and what of a transfer that is started.
use Rattle.std.proofs.Common.{refl, Option, subst, rules}
use Rattle.zone_tree.specs.Version.{Version}
use Rattle.snapshot_cell.specs.Tokens.{ReaderState}
use Rattle.requests.specs.Datagrams.{by_datagram}
use Rattle.requests.specs.Octets.{messages_in}
use Rattle.requests.specs.Served.{Grows}
use Rattle.zone_server.specs.declared.answer.Now.TheVariants as now
use Rattle.zone_server.specs.Known.{learned_by}
use Rattle.zone_server.specs.QueuedUpdate.{IsAnswered}
use Rattle.zone_server.specs.Replied.{IsReplied}
use Rattle.zone_server.proofs.ReplyLemmas.{silent_replied}
use Rattle.zone_server.proofs.NowLemmas.{now_grows}
use Rattle.zone_server.proofs.ReplyDoneLemmas.{datagram_replies}
use Rattle.zone_server.proofs.StartedLemmas.{starts, transfer_replies, transfer_grows, transfer_unanswered}
use Rattle.zone_server.proofs.datagram_handler.DatagramHandlerHandler.answer.Goals as goal

pub returns-in-Bytes-clause-grows : goal.returns-in-Bytes-clause-grows
returns-in-Bytes-clause-grows g c = now_grows g.Z.FirstZone.zone _ c.args.request.now c.args.self.now.reader c.answer_request.new.reader c.answer_request.new.out (now.Bytes c.in-Bytes.len) c.in-Bytes.ensures.answer

pub returns-in-Update-clause-grows : goal.returns-in-Update-clause-grows
returns-in-Update-clause-grows g c = subst (λ (r : ReaderState Version). Grows (learned_by c.answer_update.new.self.reader) (learned_by r)) c.in-Update.ensures.answer.1 c.answer_update.ensures.grows

pub returns-in-Update-clause-reply : goal.returns-in-Update-clause-reply
returns-in-Update-clause-reply g c =
    subst (λ (r : ReaderState Version). IsAnswered g.Z.FirstZone.zone (by_datagram c.args.self.now.peer) (learned_by r) (learned_by c.answer_update.new.self.reader) c.args.request.now (messages_in c.answer_update.result c.answer_update.new.out)) c.in-Update.ensures.answer.1
    c.answer_update.ensures.replied

pub answer_transfer-requires : goal.answer_transfer-requires
answer_transfer-requires g c =
    let permits = c.in-Transfer.ensures.answer in
    let latest = starts g.Z.FirstZone.zone _ c.args.request.now c.args.self.now.reader c.answer_request.new.reader c.answer_request.new.reader c.answer_request.new.query c.in-Transfer.strong permits in
    (search rules, (latest, (permits.permitted, (refl, search rules))))

pub returns-in-Transfer-clause-grows : goal.returns-in-Transfer-clause-grows
returns-in-Transfer-clause-grows g c =
    transfer_grows g.Z.FirstZone.zone _ c.args.request.now c.args.self.now.reader c.answer_request.new.reader c.answer_transfer.new.reader c.answer_request.new.query c.in-Transfer.strong c.in-Transfer.ensures.answer (λ (len : Option _). messages_in len c.answer_transfer.new.out) c.answer_transfer.result
    c.answer_transfer.ensures.started c.answer_transfer.ensures.spent

pub returns-in-Transfer-clause-reply : goal.returns-in-Transfer-clause-reply
returns-in-Transfer-clause-reply g c =
    datagram_replies g.Z.FirstZone.zone _ (learned_by c.args.self.now.reader) (learned_by c.answer_transfer.new.reader) c.args.request.now c.answer_transfer.new.out c.answer_transfer.result
    (transfer_replies g.Z.FirstZone.zone _ c.args.request.now c.args.self.now.reader c.answer_request.new.reader c.answer_transfer.new.reader c.answer_request.new.query c.in-Transfer.strong c.in-Transfer.ensures.answer (λ (len : Option _). messages_in len c.answer_transfer.new.out) c.answer_transfer.result
    c.answer_transfer.ensures.started)

pub returns-in-Transfer-clause-spent : goal.returns-in-Transfer-clause-spent
returns-in-Transfer-clause-spent g c =
    transfer_unanswered g.Z.FirstZone.zone _ c.args.request.now c.args.self.now.reader c.answer_request.new.reader c.answer_transfer.new.reader c.answer_request.new.query c.in-Transfer.strong c.in-Transfer.ensures.answer c.answer_transfer.result c.answer_transfer.ensures.spent

pub returns-in-Bytes-clause-at_once : goal.returns-in-Bytes-clause-at_once
returns-in-Bytes-clause-at_once g c = λ none. c.in-Bytes.ensures.answer.1

pub returns-in-Silent-clause-at_once : goal.returns-in-Silent-clause-at_once
returns-in-Silent-clause-at_once g c = λ none. silent_replied g.Z.FirstZone.zone _ _ _ c.args.request.now c.in-Silent.ensures.answer.0

pub returns-in-Update-clause-at_once : goal.returns-in-Update-clause-at_once
returns-in-Update-clause-at_once g c = λ none.
    subst (λ (r : ReaderState Version). IsReplied g.Z.FirstZone.zone (by_datagram c.args.self.now.peer) (learned_by r) (learned_by c.answer_update.new.self.reader) c.args.request.now (messages_in c.answer_update.result c.answer_update.new.out)) c.in-Update.ensures.answer.1
    (c.answer_update.ensures.at_once none)

pub returns-in-Transfer-clause-at_once : goal.returns-in-Transfer-clause-at_once
returns-in-Transfer-clause-at_once g c = λ none.
    transfer_replies g.Z.FirstZone.zone _ c.args.request.now c.args.self.now.reader c.answer_request.new.reader c.answer_transfer.new.reader c.answer_request.new.query c.in-Transfer.strong c.in-Transfer.ensures.answer (λ (len : Option _). messages_in len c.answer_transfer.new.out) c.answer_transfer.result
    c.answer_transfer.ensures.started
