-- A reply is signed message by message.
use Rattle.std.proofs.Common.{sym, ap, subst, [], ◌∷◌, take}
use Rattle.tcp_connections.specs.Kept.{messages_of}
use Rattle.signed_replies.specs.Stream.{AreSignedInOrder, stream_by}
use Rattle.signed_replies.proofs.StreamLemmas.{signed_none, signed_one, signed_many, signer_of_one, signer_of_many}
use Rattle.signed_replies.proofs.connections.signed.Goals as goal

pub returns-in-Silent-clause-messages : goal.returns-in-Silent-clause-messages
returns-in-Silent-clause-messages g c = λ limit.
    let signed = AreSignedInOrder c.args.key.now c.args.now c.args.tsig limit in
    subst (λ r. signed (messages_of g.M.Messages.left r c.args.out.now) []) (sym c.in-Silent.is) (signed_none c.args.key.now c.args.now c.args.tsig limit)

pub returns-in-One-clause-messages : goal.returns-in-One-clause-messages
returns-in-One-clause-messages g c = λ limit.
    let signed = AreSignedInOrder c.args.key.now c.args.now c.args.tsig limit in
    let first = signer_of_one c.args.key.now c.args.now c.args.tsig c.stamp_at.result c.new-signer.result c.new-signer.ensures c.stamp_at.ensures in
    let sent = take c.sign_next.result c.sign_next.new.out in
    subst (λ r. signed (messages_of g.M.Messages.left r c.args.out.now) (sent ∷ [])) (sym c.in-One.is)
    (signed_one c.args.key.now c.args.now c.args.tsig limit c.new-signer.result (take c.in-One.len c.args.out.now) sent first c.sign_next.ensures.sent)

pub returns-in-Many-clause-messages : goal.returns-in-Many-clause-messages
returns-in-Many-clause-messages g c = λ limit.
    let signed = AreSignedInOrder c.args.key.now c.args.now c.args.tsig limit in
    let first = signer_of_many c.args.key.now c.args.now c.args.tsig c.stamp_at-in-Many.result c.new.result c.new.ensures c.stamp_at-in-Many.ensures in
    let messages = stream_by c.signed.result.signer (g.M.Messages.left c.signed.result.inner) in
    subst (λ r. signed (messages_of g.M.Messages.left r c.args.out.now) messages) (sym c.in-Many.is)
    (signed_many c.args.key.now c.args.now c.args.tsig limit c.new.result (g.M.Messages.left c.in-Many.messages) messages first (ap (λ s. stream_by s.signer (g.M.Messages.left s.inner)) c.signed.ensures))

pub returns-in-Later-clause-messages : goal.returns-in-Later-clause-messages
returns-in-Later-clause-messages g c = λ limit.
    let signed = AreSignedInOrder c.args.key.now c.args.now c.args.tsig limit in
    subst (λ r. signed (messages_of g.M.Messages.left r c.args.out.now) []) (sym c.in-Later.is) (signed_none c.args.key.now c.args.now c.args.tsig limit)
