-- The first request that is held is answered, behind all that is to be written; or it waits.
use Rattle.std.proofs.Common.{◌≡◌, ◌++◌, ◌∙◌, ap, drop, sym, subst}
use Rattle.dns_message.specs.Frame.{frame_of}
use Rattle.requests.specs.Allowed.{IsReplyFrom}
use Rattle.serve_core.specs.declared.transport.Transport.TheVariants.{Tcp}
use Rattle.tcp_connections.specs.Kept.{Kept, due}
use Rattle.tcp_connections.proofs.RequestLemmas.{each_more}
use Rattle.tcp_connections.proofs.FrameLemmas.{turn_made}
use Rattle.tcp_connections.proofs.machine.ConnectionState.answer.Goals as goal

pub returns-clause-turn : goal.returns-clause-turn
returns-clause-turn g c = λ made.
    let held = c.args.self.now.held in
    let request = c.in-Some.request.now in
    let count = c.in-Some.count in
    let whole : held ≡ frame_of request ++ drop count held = subst (λ l. l ≡ frame_of request ++ drop count l) (c.as_slice.ensures ∙ ap (λ (k : Kept). k.held) c.self.view_is) c.in-Some.ensures.frame in
    let still : c.self-2.inside.held ≡ held = ap (λ (k : Kept). k.held) c.self-2.view_is ∙ c.in-Ok-queue.ensures.held in
    let left : c.advance.new.self ≡ drop count held = c.advance.ensures ∙ ap (λ l. drop count l) still in
    turn_made (IsReplyFrom g.A.Handler.is_reply c.args.allowed.rules.now Tcp c.args.from) _ _ _ _ _ _ request _ (c.reply_from.ensures.grows (g.A.Handler.asker c.args.handler.now)) (c.in-Ok.ensures.reply c.in_default-reply.not-Later) (whole ∙ ap (λ l. frame_of request ++ l) (sym left))
    (ap (λ (k : Kept). due k) c.self-2.view_is ∙ c.in-Ok-queue.ensures.queued)

pub returns-in-Later-clause-later : goal.returns-in-Later-clause-later
returns-in-Later-clause-later g c = λ later.
    let held = c.args.self.now.held in
    let request = c.in-Some.request.now in
    let count = c.in-Some.count in
    let whole : held ≡ frame_of request ++ drop count held = subst (λ l. l ≡ frame_of request ++ drop count l) (c.as_slice.ensures ∙ ap (λ (k : Kept). k.held) c.self.view_is) c.in-Some.ensures.frame in
    (request, drop count held, whole, c.in-Ok.ensures.later c.in-Later.is)

pub returns-in-Later-clause-grows : goal.returns-in-Later-clause-grows
returns-in-Later-clause-grows g c = each_more _ _ _ c.reply_from.ensures.grows c.prepare_next.ensures.grows
