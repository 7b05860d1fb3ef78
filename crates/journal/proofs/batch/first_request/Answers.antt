use Rattle.std.proofs.Common.{List, ℕ, [], ◌∷◌, map, Bor, refl}
use Rattle.std.proofs.lemmas.Slice.{pushed}
use Rattle.journal.proofs.PartLemmas.{lent_more}
use Rattle.journal.proofs.BatchLemmas.{message_more_read, no_request, fewer_left}
use Rattle.journal.proofs.batch.first_request.Goals as goal

pub returns-in_default-first_message : goal.returns-in_default-first_message
returns-in_default-first_message c =
    no_request c.args.octets.now (map (λ (b : Bor (List ℕ)). b.now) c.loop-after.messages.items) c.loop-after.rest.now c.in-Some-after_joint.after.now
    c.loop-after.invariant c.in-Some-after_joint.ensures c.in_default-first_message.ensures

pub loop-after-smaller : goal.loop-after-smaller
loop-after-smaller c =
    fewer_left c.loop-after.rest.now c.in-Some-after_joint.after.now c.in-Some-first_message.message.now c.in-Some-first_message.behind.now
    c.in-Some-after_joint.ensures c.in-Some-first_message.ensures.1

pub loop-after-preserved : goal.loop-after-preserved
loop-after-preserved c =
    let all = pushed (c.in-Some-first_message.message ∷ []) refl c.in_ok-push-2.was c.push-in-Some-after_joint.ensures.items in
    message_more_read c.args.octets.now (map (λ (b : Bor (List ℕ)). b.now) c.loop-after.messages.items) (map (λ (b : Bor (List ℕ)). b.now) c.push-in-Some-after_joint.new.self.items)
    c.loop-after.rest.now c.in-Some-after_joint.after.now c.in-Some-first_message.message.now c.in-Some-first_message.behind.now
    c.loop-after.invariant c.in-Some-after_joint.ensures c.in-Some-first_message.ensures
    (lent_more c.loop-after.messages.items c.push-in-Some-after_joint.new.self.items c.in-Some-first_message.message all)
