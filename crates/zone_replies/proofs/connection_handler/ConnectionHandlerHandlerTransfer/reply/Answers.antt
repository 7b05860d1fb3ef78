-- What the reader has seen grows, and a reply by what it saw meanwhile is one by what it had seen.
use Rattle.std.proofs.Common.{◌≡◌, [], ◌∷◌, None, take, inl, inr, sym, ap, ◌∙◌, subst, rules}
use Rattle.std.specs.Prelude.{is_some}
use Rattle.std.proofs.lemmas.Result.{IfErr-weaker}
use Rattle.dns_message.specs.Request.{reads}
use Rattle.dns_message.specs.declared.query.Parsed.TheVariants.{Silent}
use Rattle.zone_tree.specs.Version.{Version}
use Rattle.snapshot_cell.specs.Tokens.{ReaderState}
use Rattle.serve_core.specs.declared.peer.Peer.{Peer}
use Rattle.tcp_connections.specs.Requests.{EachGrows}
use Rattle.tcp_connections.proofs.RequestLemmas.{each_more}
use Rattle.tcp_connections.specs.Kept.{messages_of}
use Rattle.tcp_connections.specs.declared.handler.Reply.{Reply}
use Rattle.zone_replies.specs.declared.transfer.Transfer.{Transfer}
use Rattle.zone_server.specs.Known.{learned_by}
use Rattle.zone_server.proofs.AnswerLemmas.{answer_grows}
use Rattle.zone_server.proofs.ReplyLemmas.{silent_replied}
use Rattle.zone_server.proofs.StartedLemmas.{starts, transfer_replies, transfer_grows, transfer_spent}
use Rattle.zone_replies.specs.Going.{transfer_left}
use Rattle.zone_replies.specs.State.{HandlerState}
use Rattle.zone_replies.specs.PendingUpdates.{known_at, place_in, IsLater}
use Rattle.zone_replies.proofs.PendingLemmas.{known_grows, taken_grow}
use Rattle.zone_replies.proofs.PendingRepliedLemmas.{step_made, settled_made, settled_all, never_later, query_never_later, silent_never_later, transfer_unlater, spent_left, spent_unanswered, permits_moved}
use Rattle.zone_replies.proofs.connection_handler.ConnectionHandlerHandlerTransfer.reply.Goals as goal

pub invariant_of-self : goal.invariant_of-self
invariant_of-self g c =
    taken_grow c.self.inside.taken c.self.inside.reader c.answer_request.new.reader
    (answer_grows g.Z.FirstZone.zone c.self.inside.peer c.args.request.now c.self.inside.reader c.answer_request.new.reader c.answer_request.new.query c.answer_request.new.out c.answer_request.result c.answer_request.ensures.answer) c.self.invariant

pub invariant_of-self-in-Update : goal.invariant_of-self-in-Update
invariant_of-self-in-Update g c =
    taken_grow c.self.inside.taken c.self.inside.reader c.answer_request.new.reader
    (answer_grows g.Z.FirstZone.zone c.self.inside.peer c.args.request.now c.self.inside.reader c.answer_request.new.reader c.answer_request.new.query c.answer_request.new.out c.answer_request.result c.answer_request.ensures.answer) c.self.invariant

pub returns-in-Bytes-clause-grows : goal.returns-in-Bytes-clause-grows
returns-in-Bytes-clause-grows g c =
    each_more _ _ _ (subst (λ (s : HandlerState). EachGrows {T = Version} (known_at s.taken s.reader) (known_at c.args.self.now.taken c.args.self.now.reader)) (sym c.self.view_is) c.settle.ensures.grows)
    (known_grows c.self.inside.taken c.self.inside.reader c.answer_request.new.reader (answer_grows g.Z.FirstZone.zone c.self.inside.peer c.args.request.now c.self.inside.reader c.answer_request.new.reader c.answer_request.new.query c.answer_request.new.out c.answer_request.result c.answer_request.ensures.answer))

pub returns-in-Silent-clause-grows : goal.returns-in-Silent-clause-grows
returns-in-Silent-clause-grows g c =
    each_more _ _ _ (subst (λ (s : HandlerState). EachGrows {T = Version} (known_at s.taken s.reader) (known_at c.args.self.now.taken c.args.self.now.reader)) (sym c.self.view_is) c.settle.ensures.grows)
    (known_grows c.self.inside.taken c.self.inside.reader c.answer_request.new.reader (answer_grows g.Z.FirstZone.zone c.self.inside.peer c.args.request.now c.self.inside.reader c.answer_request.new.reader c.answer_request.new.query c.answer_request.new.out c.answer_request.result c.answer_request.ensures.answer))

pub returns-in-Spent-clause-grows : goal.returns-in-Spent-clause-grows
returns-in-Spent-clause-grows g c =
    each_more _ _ _ (subst (λ (s : HandlerState). EachGrows {T = Version} (known_at s.taken s.reader) (known_at c.args.self.now.taken c.args.self.now.reader)) (sym c.self.view_is) c.settle.ensures.grows)
    (known_grows c.self.inside.taken c.self.inside.reader c.answer_request.new.reader (answer_grows g.Z.FirstZone.zone c.self.inside.peer c.args.request.now c.self.inside.reader c.answer_request.new.reader c.answer_request.new.query c.answer_request.new.out c.answer_request.result c.answer_request.ensures.answer))

pub returns-in-Bytes-clause-reply : goal.returns-in-Bytes-clause-reply
returns-in-Bytes-clause-reply g c = λ _.
    let peer : c.self.inside.peer ≡ c.args.self.now.peer = subst (λ (s : HandlerState). s.peer ≡ c.args.self.now.peer) (sym c.self.view_is) c.settle.ensures.peer in
    let none : place_in c.self.inside.taken c.args.self.now.asker ≡ None = subst (λ (s : HandlerState). place_in s.taken c.args.self.now.asker ≡ None) (sym c.self.view_is)
    (c.settle.ensures.other (inr (never_later c.args.self.now.peer c.args.request.now c.in-Bytes.ensures.answer.2.other))) in
    settled_made g.Z.FirstZone.zone c.args.self.now c.self.inside.peer c.self.inside.taken c.self.inside.reader c.answer_request.new.reader c.args.request.now (take c.in-Bytes.len c.answer_request.new.out ∷ []) peer none
    (subst (λ (s : HandlerState). EachGrows {T = Version} (known_at s.taken s.reader) (known_at c.args.self.now.taken c.args.self.now.reader)) (sym c.self.view_is) c.settle.ensures.grows) c.in-Bytes.ensures.answer.1

pub returns-in-Silent-clause-reply : goal.returns-in-Silent-clause-reply
returns-in-Silent-clause-reply g c = λ _.
    let peer : c.self.inside.peer ≡ c.args.self.now.peer = subst (λ (s : HandlerState). s.peer ≡ c.args.self.now.peer) (sym c.self.view_is) c.settle.ensures.peer in
    let silent : reads c.args.request.now ≡ Silent = c.in-Silent.ensures.answer.0 in
    let none : place_in c.self.inside.taken c.args.self.now.asker ≡ None = subst (λ (s : HandlerState). place_in s.taken c.args.self.now.asker ≡ None) (sym c.self.view_is)
    (c.settle.ensures.other (inr (silent_never_later c.args.self.now.peer c.args.request.now silent))) in
    settled_made g.Z.FirstZone.zone c.args.self.now c.self.inside.peer c.self.inside.taken c.self.inside.reader c.answer_request.new.reader c.args.request.now [] peer none
    (subst (λ (s : HandlerState). EachGrows {T = Version} (known_at s.taken s.reader) (known_at c.args.self.now.taken c.args.self.now.reader)) (sym c.self.view_is) c.settle.ensures.grows)
    (silent_replied g.Z.FirstZone.zone c.self.inside.peer (learned_by c.self.inside.reader) (learned_by c.answer_request.new.reader) c.args.request.now silent)

pub returns-in-Spent-clause-spent : goal.returns-in-Spent-clause-spent
returns-in-Spent-clause-spent g c = λ _. ap (λ (r : ReaderState Version). r.left) c.in-Spent.ensures.answer.1.1 ∙ c.in-Spent.ensures.answer.1.0

pub returns-in-Spent-clause-unanswered : goal.returns-in-Spent-clause-unanswered
returns-in-Spent-clause-unanswered g c =
    let reader : c.self.inside.reader ≡ c.args.self.now.reader = subst (λ (s : HandlerState). s.reader ≡ c.args.self.now.reader) (sym c.self.view_is) c.settle.ensures.reader in
    inl (c.in-Spent.ensures.answer.0, subst (λ (r : ReaderState Version). r.left ≡ 0) reader c.in-Spent.ensures.answer.1.0)

pub returns-in-Update-clause-grows : goal.returns-in-Update-clause-grows
returns-in-Update-clause-grows g c =
    each_more _ _ _ (each_more _ _ _ (subst (λ (s : HandlerState). EachGrows {T = Version} (known_at s.taken s.reader) (known_at c.args.self.now.taken c.args.self.now.reader)) (sym c.self.view_is) c.settle.ensures.grows)
    (known_grows c.self.inside.taken c.self.inside.reader c.answer_request.new.reader (answer_grows g.Z.FirstZone.zone c.self.inside.peer c.args.request.now c.self.inside.reader c.answer_request.new.reader c.answer_request.new.query c.answer_request.new.out c.answer_request.result c.answer_request.ensures.answer))) c.reply_update.ensures.grows

pub returns-in-Update-clause-reply : goal.returns-in-Update-clause-reply
returns-in-Update-clause-reply g c =
    let peer : c.self.inside.peer ≡ c.args.self.now.peer = subst (λ (s : HandlerState). s.peer ≡ c.args.self.now.peer) (sym c.self.view_is) c.settle.ensures.peer in
    let asker : c.self.inside.asker ≡ c.args.self.now.asker = subst (λ (s : HandlerState). s.asker ≡ c.args.self.now.asker) (sym c.self.view_is) c.settle.ensures.asker in
    let mid : HandlerState = record { reader = c.answer_request.new.reader; peer = c.self.inside.peer; asker = c.self.inside.asker; taken = c.self.inside.taken; submits = c.args.self.now.submits } in
    step_made g.Z.FirstZone.zone transfer_left c.args.request.now c.reply_update.new.out c.args.self.now mid (known_at c.reply_update.new.self.taken c.reply_update.new.self.reader) c.reply_update.result peer asker
    (each_more _ _ _ (subst (λ (s : HandlerState). EachGrows {T = Version} (known_at s.taken s.reader) (known_at c.args.self.now.taken c.args.self.now.reader)) (sym c.self.view_is) c.settle.ensures.grows)
    (known_grows c.self.inside.taken c.self.inside.reader c.answer_request.new.reader (answer_grows g.Z.FirstZone.zone c.self.inside.peer c.args.request.now c.self.inside.reader c.answer_request.new.reader c.answer_request.new.query c.answer_request.new.out c.answer_request.result c.answer_request.ensures.answer))) c.reply_update.ensures.replied

pub returns-in-Update-clause-later : goal.returns-in-Update-clause-later
returns-in-Update-clause-later g c = λ later.
    let peer : c.self.inside.peer ≡ c.args.self.now.peer = subst (λ (s : HandlerState). s.peer ≡ c.args.self.now.peer) (sym c.self.view_is) c.settle.ensures.peer in
    subst (λ (p : Peer). IsLater p c.args.request.now) peer (c.reply_update.ensures.later later)

pub returns-in-Update-clause-submitted : goal.returns-in-Update-clause-submitted
returns-in-Update-clause-submitted g c = λ later.
    let submits : is_some c.self.inside.sender ≡ c.args.self.now.submits = subst (λ (s : HandlerState). s.submits ≡ c.args.self.now.submits) (sym c.self.view_is) c.settle.ensures.submits in
    sym submits ∙ c.reply_update.ensures.submitted later

pub begin_transfer-requires : goal.begin_transfer-requires
begin_transfer-requires g c =
    let permits = permits_moved g.Z.FirstZone.zone c.self.inside.peer c.args.request.now c.self.inside.reader c.answer_request.new.reader c.in-Transfer.strong c.answer_request.new.query c.replace-query.result c.replace-query.ensures.value c.in-Transfer.ensures.answer in
    let latest = starts g.Z.FirstZone.zone c.self.inside.peer c.args.request.now c.self.inside.reader c.answer_request.new.reader c.answer_request.new.reader c.replace-query.result c.in-Transfer.strong permits in
    (search rules, (latest, (permits.permitted, search rules)))

pub invariant_of-self-in-Transfer : goal.invariant_of-self-in-Transfer
invariant_of-self-in-Transfer g c =
    taken_grow c.self.inside.taken c.self.inside.reader c.begin_transfer.new.reader
    (transfer_grows g.Z.FirstZone.zone c.self.inside.peer c.args.request.now c.self.inside.reader c.answer_request.new.reader c.begin_transfer.new.reader c.replace-query.result c.in-Transfer.strong (permits_moved g.Z.FirstZone.zone c.self.inside.peer c.args.request.now c.self.inside.reader c.answer_request.new.reader c.in-Transfer.strong c.answer_request.new.query c.replace-query.result c.replace-query.ensures.value c.in-Transfer.ensures.answer) (λ (reply : Reply Transfer). messages_of transfer_left reply c.begin_transfer.new.out) c.begin_transfer.result c.begin_transfer.ensures.started c.begin_transfer.ensures.spent) c.self.invariant

pub returns-in-Transfer-clause-grows : goal.returns-in-Transfer-clause-grows
returns-in-Transfer-clause-grows g c =
    each_more _ _ _ (subst (λ (s : HandlerState). EachGrows {T = Version} (known_at s.taken s.reader) (known_at c.args.self.now.taken c.args.self.now.reader)) (sym c.self.view_is) c.settle.ensures.grows)
    (known_grows c.self.inside.taken c.self.inside.reader c.begin_transfer.new.reader
    (transfer_grows g.Z.FirstZone.zone c.self.inside.peer c.args.request.now c.self.inside.reader c.answer_request.new.reader c.begin_transfer.new.reader c.replace-query.result c.in-Transfer.strong (permits_moved g.Z.FirstZone.zone c.self.inside.peer c.args.request.now c.self.inside.reader c.answer_request.new.reader c.in-Transfer.strong c.answer_request.new.query c.replace-query.result c.replace-query.ensures.value c.in-Transfer.ensures.answer) (λ (reply : Reply Transfer). messages_of transfer_left reply c.begin_transfer.new.out) c.begin_transfer.result c.begin_transfer.ensures.started c.begin_transfer.ensures.spent))

pub returns-in-Transfer-clause-reply : goal.returns-in-Transfer-clause-reply
returns-in-Transfer-clause-reply g c =
    let peer : c.self.inside.peer ≡ c.args.self.now.peer = subst (λ (s : HandlerState). s.peer ≡ c.args.self.now.peer) (sym c.self.view_is) c.settle.ensures.peer in
    let none : place_in c.self.inside.taken c.args.self.now.asker ≡ None = subst (λ (s : HandlerState). place_in s.taken c.args.self.now.asker ≡ None) (sym c.self.view_is)
    (c.settle.ensures.other (inr (query_never_later c.args.self.now.peer c.args.request.now (c.answer_request.new.query, c.in-Transfer.ensures.answer.asked)))) in
    settled_all g.Z.FirstZone.zone transfer_left c.args.self.now c.self.inside.peer c.self.inside.taken c.self.inside.reader c.begin_transfer.new.reader c.args.request.now c.begin_transfer.new.out c.begin_transfer.result peer none
    (subst (λ (s : HandlerState). EachGrows {T = Version} (known_at s.taken s.reader) (known_at c.args.self.now.taken c.args.self.now.reader)) (sym c.self.view_is) c.settle.ensures.grows)
    (transfer_replies g.Z.FirstZone.zone c.self.inside.peer c.args.request.now c.self.inside.reader c.answer_request.new.reader c.begin_transfer.new.reader c.replace-query.result c.in-Transfer.strong (permits_moved g.Z.FirstZone.zone c.self.inside.peer c.args.request.now c.self.inside.reader c.answer_request.new.reader c.in-Transfer.strong c.answer_request.new.query c.replace-query.result c.replace-query.ensures.value c.in-Transfer.ensures.answer) (λ (reply : Reply Transfer). messages_of transfer_left reply c.begin_transfer.new.out)
    c.begin_transfer.result c.begin_transfer.ensures.started)

pub returns-in-Transfer-clause-later : goal.returns-in-Transfer-clause-later
returns-in-Transfer-clause-later g c = transfer_unlater _ c.begin_transfer.result c.begin_transfer.ensures.made

pub returns-in-Transfer-clause-submitted : goal.returns-in-Transfer-clause-submitted
returns-in-Transfer-clause-submitted g c = transfer_unlater _ c.begin_transfer.result c.begin_transfer.ensures.made

pub returns-in-Transfer-clause-spent : goal.returns-in-Transfer-clause-spent
returns-in-Transfer-clause-spent g c =
    IfErr-weaker c.begin_transfer.result (λ end. c.begin_transfer.new.reader.left ≡ 0) _ (λ end left _. left)
    (spent_left g.Z.FirstZone.zone c.self.inside.peer c.args.request.now c.begin_transfer.new.reader c.begin_transfer.result (transfer_spent g.Z.FirstZone.zone c.self.inside.peer c.args.request.now c.self.inside.reader c.answer_request.new.reader c.begin_transfer.new.reader c.replace-query.result c.in-Transfer.strong (permits_moved g.Z.FirstZone.zone c.self.inside.peer c.args.request.now c.self.inside.reader c.answer_request.new.reader c.in-Transfer.strong c.answer_request.new.query c.replace-query.result c.replace-query.ensures.value c.in-Transfer.ensures.answer) c.begin_transfer.result c.begin_transfer.ensures.spent))

pub returns-in-Transfer-clause-unanswered : goal.returns-in-Transfer-clause-unanswered
returns-in-Transfer-clause-unanswered g c =
    let peer : c.self.inside.peer ≡ c.args.self.now.peer = subst (λ (s : HandlerState). s.peer ≡ c.args.self.now.peer) (sym c.self.view_is) c.settle.ensures.peer in
    spent_unanswered g.Z.FirstZone.zone c.self.inside.peer c.args.self.now.peer c.args.request.now c.args.self.now.reader c.begin_transfer.new.reader c.begin_transfer.result peer (transfer_spent g.Z.FirstZone.zone c.self.inside.peer c.args.request.now c.self.inside.reader c.answer_request.new.reader c.begin_transfer.new.reader c.replace-query.result c.in-Transfer.strong (permits_moved g.Z.FirstZone.zone c.self.inside.peer c.args.request.now c.self.inside.reader c.answer_request.new.reader c.in-Transfer.strong c.answer_request.new.query c.replace-query.result c.replace-query.ensures.value c.in-Transfer.ensures.answer) c.begin_transfer.result c.begin_transfer.ensures.spent)
