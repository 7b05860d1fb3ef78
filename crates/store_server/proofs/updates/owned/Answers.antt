use Rattle.std.proofs.Common.{ℕ, List, map, Bor, Vec, Global, sym, ap, ◌∙◌, subst, arith}
use Rattle.std.proofs.lemmas.List.{length-map, get_or-map}
use Rattle.std.proofs.lemmas.List.Elements.{All-get_or}
use Rattle.journal.specs.Batch.{IsRequest}
use Rattle.journal.proofs.StartLemmas.{messages_now, told_none}
use Rattle.store_server.proofs.updates.owned.Goals as goal

-- each of the requests can stand in a batch
pub unreachable-requires : goal.unreachable-requires
unreachable-requires c =
    let request : Vec (Bor (List ℕ)) Global = c.request-item.result in
    let all = c.args.found.now in
    let here : IsRequest (messages_now request) =
    subst IsRequest (get_or-map messages_now all c.loop-request.request-index request (messages_now request) c.loop-request-test.true ∙ ap messages_now (sym c.request-item.is))
    (All-get_or IsRequest (map messages_now all) c.loop-request.request-index (messages_now request) (omega (arith, c.loop-request-test.true, length-map all messages_now)) c.requires) in
    told_none _ _ _ c.in-None.is c.in_ok-copy.ensures (subst (λ (l : List (Bor (List ℕ))). IsRequest (map (λ message. message.now) l)) (sym c.deref.ensures.value) here)
