-- The last updates of what is recovered.
use Rattle.journal.specs.Batch.{Messages, IsRequest}
use Rattle.journal.specs.Recovered.{updates_in}
use Rattle.journal.proofs.StartLemmas.{messages_now}
use Rattle.std.proofs.Common.{◌≡◌, ◌-◌, ℕ, List, [], ◌∷◌, length, drop, map, All, Bor, Vec, Global, sym, subst, ap, ◌∙◌, arith}
use Rattle.std.proofs.lemmas.List.{length-map}
use Rattle.std.proofs.lemmas.List.Elements.{All-nil, All-head, All-tail, All-append}
use Rattle.store_server.proofs.updates.start_with_updates.Goals as goal

-- the requests of batches are requests
all_requests : (batches : List (List Messages)) → All (All IsRequest) batches → All IsRequest (updates_in batches)
all_requests [] short = All-nil IsRequest
all_requests (batch ∷ batches) short =
    All-append IsRequest batch (updates_in batches) (All-head (All IsRequest) batch batches short) (all_requests batches (All-tail (All IsRequest) batch batches short))

pub last_updates-requires : goal.last_updates-requires
last_updates-requires c =
    let recovered = c.in-Ok.ensures.recovered.1 in
    let all : All IsRequest (map messages_now c.in-Ok.found.updates.items) =
    subst (All IsRequest) (sym recovered.all) (all_requests recovered.batches recovered.are_batches.short) in
    subst (λ (lent : List (Vec (Bor (List ℕ)) Global)). All IsRequest (map messages_now lent)) (sym c.deref.ensures.value) all

pub returns-clause-updates : goal.returns-clause-updates
returns-clause-updates c =
    let now : Vec (Bor (List ℕ)) Global → Messages = messages_now in
    let found = c.in-Ok.found in
    let items = found.updates.items in
    let older = c.in_ok-start.start.newest.older.items in
    let lent = c.deref.result.now in
    let count : length lent - c.len.result ≡ length (map now items) - length older = omega (arith, c.len.ensures, ap length c.deref.ensures.value, length-map items now) in
    record {
      head = found.head;
      all = map now items;
      sound = record { number = found.number; end = found.end; torn = found.torn; recovered = c.in-Ok.ensures.recovered.1 };
      last = c.in_ok-updates.ensures ∙ (ap (λ (n : ℕ). drop n (map now lent)) count ∙ ap (λ (l : List (Vec (Bor (List ℕ)) Global)). drop (length (map now items) - length older) (map now l)) c.deref.ensures.value);
    }
