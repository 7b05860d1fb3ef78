use Rattle.std.proofs.Common.{◌<◌, ◌∷◌, [], length, refl, rules, ap, ◌∙◌}
use Rattle.std.proofs.lemmas.List.{map_push}
use Rattle.std.proofs.lemmas.Slice.{pushed}
use Rattle.journal.proofs.BatchLemmas.{batch_fewer, one_more_read, no_batch}
use Rattle.journal.proofs.StartLemmas.{messages_now, requests_now, told_some, told_none}
use Rattle.journal.proofs.batch.read_batch.Goals as goal

pub returns-in_default : goal.returns-in_default
returns-in_default c =
    let some : 0 < length c.loop-rest.rest.now = search rules in
    let none = told_none _ _ _ c.in_default.is c.in_ok-request.ensures in
    no_batch c.args.octets.now (requests_now c.loop-rest.requests.items) c.loop-rest.rest.now c.loop-rest.invariant some none

pub loop-rest-smaller : goal.loop-rest-smaller
loop-rest-smaller c =
    let found = told_some _ _ _ _ c.in-Some.is c.in_ok-request.ensures in
    batch_fewer (messages_now c.in-Some.request) c.loop-rest.rest.now c.in-Some.behind.now found

pub loop-rest-preserved : goal.loop-rest-preserved
loop-rest-preserved c =
    let found = told_some _ _ _ _ c.in-Some.is c.in_ok-request.ensures in
    let all = pushed (c.in-Some.request ∷ []) refl c.in_ok-push.was c.push.ensures.items in
    one_more_read c.args.octets.now (requests_now c.loop-rest.requests.items) (requests_now c.push.new.self.items) c.loop-rest.rest.now
    (messages_now c.in-Some.request) c.in-Some.behind.now c.loop-rest.invariant found
    (ap requests_now all ∙ map_push messages_now c.loop-rest.requests.items c.in-Some.request)
