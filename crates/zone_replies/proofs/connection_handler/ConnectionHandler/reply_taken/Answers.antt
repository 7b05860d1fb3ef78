-- What is told at a ticket is the reply by what was known when the first of the updates that wait together was submitted.
use Rattle.std.proofs.Common.{◌≡◌, ◌≤◌, ℕ, true, [], ◌∷◌, Option, None, Some, length, take, sym, ap, ◌∙◌, subst}
use Rattle.dns_message.specs.Message.{message_limit}
use Rattle.tcp_connections.specs.declared.handler.Reply.{Reply}
use Rattle.tcp_connections.specs.declared.handler.Reply.TheVariants.{One}
use Rattle.zone_replies.specs.declared.transfer.Transfer.{Transfer}
use Rattle.zone_tree.specs.Version.{Version}
use Rattle.tcp_connections.specs.Served.{waited}
use Rattle.tcp_connections.specs.Requests.{EachGrows}
use Rattle.tcp_connections.proofs.RequestLemmas.{each_more}
use Rattle.zone_server.specs.UpdateResult.{IsFetched, IsDone}
use Rattle.zone_server.specs.declared.update_result.Poll.{Poll}
use Rattle.zone_replies.specs.State.{HandlerState}
use Rattle.zone_replies.specs.PendingUpdates.{known_at, place_in, IsLater, IsMadeBy}
use Rattle.zone_replies.proofs.PendingLemmas.{left_all, left_grows}
use Rattle.zone_replies.proofs.PendingRepliedLemmas.{meets_grows, taken_replied}
use Rattle.zone_replies.proofs.connection_handler.ConnectionHandler.reply_taken.Goals as goal
use Rattle.zone_replies.proofs.connection_handler.ConnectionHandler.reply_taken.Goals.{else-may-via-then-may+else-is_one, else-may-via-else-may}

apart : (len : ℕ) → ◌≡◌ {A = Option (Reply Transfer)} (Some (One len)) None → ⊥
apart len is = cc

same_len : (len same : ℕ) → ◌≡◌ {A = Reply Transfer} (One len) (One same) → len ≡ same
same_len len same is = cc

pub invariant_of-self : goal.invariant_of-self
invariant_of-self g c =
    let grown = meets_grows g.Z.FirstZone.zone c.self.inside.reader c.fetch.new.reader c.fetch.ensures.met.0 c.fetch.ensures.met.1 in
    left_all c.self.inside.reader c.fetch.new.reader grown c.self.inside.taken c.self.inside.asker c.fetch.result c.fetch.new.self c.fetch.ensures.rest c.self.invariant

pub returns-in-Pending-clause-grows : goal.returns-in-Pending-clause-grows
returns-in-Pending-clause-grows g c =
    let grown = meets_grows g.Z.FirstZone.zone c.self.inside.reader c.fetch.new.reader c.fetch.ensures.met.0 c.fetch.ensures.met.1 in
    subst (λ (s : HandlerState). EachGrows {T = Version} (known_at c.fetch.new.self c.fetch.new.reader) (known_at s.taken s.reader)) c.self.view_is
    (left_grows c.self.inside.reader c.fetch.new.reader grown c.self.inside.taken c.self.inside.asker c.fetch.result c.fetch.new.self c.fetch.ensures.rest c.self.invariant)

pub invariant_of-self-then-is_one : goal.invariant_of-self-then-is_one
invariant_of-self-then-is_one g c =
    let grown = meets_grows g.Z.FirstZone.zone c.self.inside.reader c.fetch.new.reader c.fetch.ensures.met.0 c.fetch.ensures.met.1 in
    left_all c.self.inside.reader c.fetch.new.reader grown c.self.inside.taken c.self.inside.asker c.fetch.result c.fetch.new.self c.fetch.ensures.rest c.self.invariant

pub invariant_of-self-else-may : goal.invariant_of-self-else-may
invariant_of-self-else-may g c =
    let grown = meets_grows g.Z.FirstZone.zone c.self.inside.reader c.fetch.new.reader c.fetch.ensures.met.0 c.fetch.ensures.met.1 in
    left_all c.self.inside.reader c.fetch.new.reader grown c.self.inside.taken c.self.inside.asker c.fetch.result c.fetch.new.self c.fetch.ensures.rest c.self.invariant

pub invariant_of-self-else-is_one : goal.invariant_of-self-else-is_one
invariant_of-self-else-is_one g c =
    let grown = meets_grows g.Z.FirstZone.zone c.self.inside.reader c.fetch.new.reader c.fetch.ensures.met.0 c.fetch.ensures.met.1 in
    left_all c.self.inside.reader c.fetch.new.reader grown c.self.inside.taken c.self.inside.asker c.fetch.result c.fetch.new.self c.fetch.ensures.rest c.self.invariant

pub invariant_of-self-in-Unknown : goal.invariant_of-self-in-Unknown
invariant_of-self-in-Unknown g c =
    let grown = meets_grows g.Z.FirstZone.zone c.self.inside.reader c.fetch.new.reader c.fetch.ensures.met.0 c.fetch.ensures.met.1 in
    left_all c.self.inside.reader c.fetch.new.reader grown c.self.inside.taken c.self.inside.asker c.fetch.result c.fetch.new.self c.fetch.ensures.rest c.self.invariant

pub returns-else-may : goal.returns-else-may
returns-else-may g c =
    let grown = meets_grows g.Z.FirstZone.zone c.self.inside.reader c.fetch.new.reader c.fetch.ensures.met.0 c.fetch.ensures.met.1 in
    let peer : c.else-may.self.peer ≡ c.self.inside.peer = elim c.else-may.branch [ else-may-via-then-may+else-is_one w ↦ ap (λ (s : HandlerState). s.peer) w.self-is | else-may-via-else-may w ↦ ap (λ (s : HandlerState). s.peer) w.self-is ] in
    let asker : c.else-may.self.asker ≡ c.self.inside.asker = elim c.else-may.branch [ else-may-via-then-may+else-is_one w ↦ ap (λ (s : HandlerState). s.asker) w.self-is | else-may-via-else-may w ↦ ap (λ (s : HandlerState). s.asker) w.self-is ] in
    let submits : c.else-may.self.submits ≡ c.args.self.now.submits =
    elim c.else-may.branch [ else-may-via-then-may+else-is_one w ↦ ap (λ (s : HandlerState). s.submits) w.self-is ∙ ap (λ (s : HandlerState). s.submits) c.self.view_is | else-may-via-else-may w ↦ ap (λ (s : HandlerState). s.submits) w.self-is ∙ ap (λ (s : HandlerState). s.submits) c.self.view_is ] in
    let gone : EachGrows {T = Version} (known_at c.abandon.new.self.taken c.abandon.new.self.reader) (known_at c.fetch.new.self c.fetch.new.reader) =
    elim c.else-may.branch [ else-may-via-then-may+else-is_one w ↦ subst (λ (s : HandlerState). EachGrows {T = Version} (known_at c.abandon.new.self.taken c.abandon.new.self.reader) (known_at s.taken s.reader)) w.self-is c.abandon.ensures.grows | else-may-via-else-may w ↦ subst (λ (s : HandlerState). EachGrows {T = Version} (known_at c.abandon.new.self.taken c.abandon.new.self.reader) (known_at s.taken s.reader)) w.self-is c.abandon.ensures.grows ] in
    record {
      peer = c.abandon.ensures.peer ∙ peer ∙ ap (λ (s : HandlerState). s.peer) c.self.view_is;
      asker = c.abandon.ensures.asker ∙ asker ∙ ap (λ (s : HandlerState). s.asker) c.self.view_is;
      submits = c.abandon.ensures.submits ∙ submits;
      grows =
          subst (λ (s : HandlerState). EachGrows {T = Version} (known_at c.abandon.new.self.taken c.abandon.new.self.reader) (known_at s.taken s.reader)) c.self.view_is
          (each_more _ _ _ (left_grows c.self.inside.reader c.fetch.new.reader grown c.self.inside.taken c.self.inside.asker c.fetch.result c.fetch.new.self c.fetch.ensures.rest c.self.invariant) gone);
      none = λ _.
          subst (λ (s : HandlerState). place_in c.abandon.new.self.taken s.asker ≡ None) c.self.view_is
          (subst (λ (key : ℕ). place_in c.abandon.new.self.taken key ≡ None) asker c.abandon.ensures.none);
      bound = tt;
      replied = tt;
    }

pub returns-in-Unknown : goal.returns-in-Unknown
returns-in-Unknown g c =
    let grown = meets_grows g.Z.FirstZone.zone c.self.inside.reader c.fetch.new.reader c.fetch.ensures.met.0 c.fetch.ensures.met.1 in
    let gone = c.abandon-in-Unknown in
    record {
      peer = gone.ensures.peer ∙ ap (λ (s : HandlerState). s.peer) c.self.view_is;
      asker = gone.ensures.asker ∙ ap (λ (s : HandlerState). s.asker) c.self.view_is;
      submits = gone.ensures.submits ∙ ap (λ (s : HandlerState). s.submits) c.self.view_is;
      grows =
          subst (λ (s : HandlerState). EachGrows {T = Version} (known_at gone.new.self.taken gone.new.self.reader) (known_at s.taken s.reader)) c.self.view_is
          (each_more _ _ _ (left_grows c.self.inside.reader c.fetch.new.reader grown c.self.inside.taken c.self.inside.asker c.fetch.result c.fetch.new.self c.fetch.ensures.rest c.self.invariant) gone.ensures.grows);
      none = λ _. subst (λ (s : HandlerState). place_in gone.new.self.taken s.asker ≡ None) c.self.view_is gone.ensures.none;
      bound = tt;
      replied = tt;
    }

pub returns-then-is_one : goal.returns-then-is_one
returns-then-is_one g c =
    let first = g.Z.FirstZone.zone in
    let grown = meets_grows first c.self.inside.reader c.fetch.new.reader c.fetch.ensures.met.0 c.fetch.ensures.met.1 in
    let here : place_in c.self.inside.taken c.self.inside.asker ≡ Some c.in-Some.place = sym c.at.ensures ∙ c.in-Some.is in
    let reported : IsDone first c.fetch.new.reader.seen c.in-Ready.done = subst (λ (f : Poll). IsFetched first c.fetch.new.reader.seen f) c.in-Ready.is c.fetch.ensures.fetched in
    let alone : c.in-Ready.done.asked.messages ≡ c.args.request.now ∷ [] = sym c.messages.ensures ∙ c.is_one.ensures.0 c.if-is_one.true in
    let may : c.in-Ready.done.asked.may ≡ true = sym c.may.ensures ∙ c.if-may.true in
    let permitted : c.self.inside.peer.may_update ≡ true = subst (λ (s : HandlerState). s.peer.may_update ≡ true) (sym c.self.view_is) c.requires.later.1 in
    let replied = taken_replied first c.self.inside.peer c.self.inside.taken c.self.inside.reader c.fetch.new.reader c.self.inside.asker c.fetch.ensures.met.0 c.in-Some.place c.in-Ready.done c.args.request.now c.reply_done.new.out c.reply_done.result c.self.invariant here c.fetch.ensures.met.1 reported alone may permitted c.reply_done.ensures.octets in
    let same = c.reply_done.ensures.same in
    record {
      peer = ap (λ (s : HandlerState). s.peer) same ∙ ap (λ (s : HandlerState). s.peer) c.self.view_is;
      asker = ap (λ (s : HandlerState). s.asker) same ∙ ap (λ (s : HandlerState). s.asker) c.self.view_is;
      submits = ap (λ (s : HandlerState). s.submits) same ∙ ap (λ (s : HandlerState). s.submits) c.self.view_is;
      grows =
          subst (λ (s : HandlerState). EachGrows {T = Version} (known_at c.reply_done.new.self.taken c.reply_done.new.self.reader) (known_at s.taken s.reader)) c.self.view_is
          (subst (λ (s : HandlerState). EachGrows {T = Version} (known_at s.taken s.reader) (known_at c.self.inside.taken c.self.inside.reader)) (sym same)
          (left_grows c.self.inside.reader c.fetch.new.reader grown c.self.inside.taken c.self.inside.asker c.fetch.result c.fetch.new.self c.fetch.ensures.rest c.self.invariant));
      none = λ is. absurd (apart c.reply_done.result is);
      bound = λ len is. subst (λ (n : ℕ). (n ≤ message_limit) × (n ≤ length c.reply_done.new.out)) (same_len c.reply_done.result len is) c.reply_done.ensures.bound;
      replied = λ _.
          subst (λ (s : HandlerState). IsMadeBy first s.peer (known_at s.taken s.reader s.asker) (known_at c.reply_done.new.self.taken c.reply_done.new.self.reader s.asker) c.args.request.now (take c.reply_done.result c.reply_done.new.out ∷ [])) c.self.view_is
          (subst (λ (s : HandlerState). IsMadeBy first c.self.inside.peer (known_at c.self.inside.taken c.self.inside.reader c.self.inside.asker) (known_at s.taken s.reader c.self.inside.asker) c.args.request.now (take c.reply_done.result c.reply_done.new.out ∷ [])) (sym same)
          (waited (subst (λ (s : HandlerState). IsLater s.peer c.args.request.now) (sym c.self.view_is) c.requires.later) replied));
    }
