use Rattle.std.proofs.Common.{◌++◌, Bool, ap, ◌∙◌, sym}
use Rattle.metric_families.specs.Counted.{requests_told, replies_told, updates_told, connections_told, store_told, stored_told, threads_told}
use Rattle.metric_families.proofs.PutLemmas.{after, joined}
use Rattle.metric_families.proofs.counted.counter_families.Goals as goal

pub returns-in_ok-put_store : goal.returns-in_ok-put_store
returns-in_ok-put_store c =
    let start = c.args.families.now.items in
    let sum = c.args.sum.now in
    joined start (threads_told sum) (store_told sum)
    (joined start _ (connections_told sum.numbers)
    (after start _
    (joined start _ (updates_told sum)
    (joined start (requests_told sum.numbers) (replies_told sum.numbers) c.in_ok-put_requests.ensures c.in_ok-put_replies.ensures) c.in_ok-put_updates.ensures)
    c.in_ok-push.ensures.items c.in_ok-transfers.ensures)
    c.in_ok-put_connections.ensures) c.in_ok-put_store.ensures
    ∙ ap (λ (b : Bool). start ++ (threads_told sum ++ stored_told b sum)) (sym c.if-has_store.true)

pub returns-else-has_store : goal.returns-else-has_store
returns-else-has_store c =
    let start = c.args.families.now.items in
    let sum = c.args.sum.now in
    joined start _ (connections_told sum.numbers)
    (after start _
    (joined start _ (updates_told sum)
    (joined start (requests_told sum.numbers) (replies_told sum.numbers) c.in_ok-put_requests.ensures c.in_ok-put_replies.ensures) c.in_ok-put_updates.ensures)
    c.in_ok-push.ensures.items c.in_ok-transfers.ensures)
    c.in_ok-put_connections.ensures
    ∙ ap (λ (b : Bool). start ++ (threads_told sum ++ stored_told b sum)) (sym c.if-has_store.false)
