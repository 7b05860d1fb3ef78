use Rattle.std.proofs.Common.{◌<◌, ◌≤◌, ◌^◌, ℕ, List, Bor, Vec, Global, length, map, ap, subst, ◌∙◌, arith, rules}
use Rattle.store_recovery.specs.Replay.{IsMade, IsUpdateFault}
use Rattle.store_recovery.proofs.ReplayLemmas.{one_more_replayed, so_far_number, not_taken_at, made_told, fault_told}
use Rattle.store_recovery.proofs.replayed.replay_all.Goals as goal

pub next_version-requires : goal.next_version-requires
next_version-requires c =
    let within : c.loop-place.place < length c.args.requests.now = c.loop-place-test.true in
    let fits : length c.args.requests.now < 2 ^ 64 = search rules in
    let few : c.loop-place.place ≤ length c.args.requests.now = omega (arith, within) in
    let number = so_far_number c.args.zone c.args.requests.now c.loop-place.place c.loop-place.newest c.loop-place.invariant few in
    omega (arith, within, fits, number)

pub returns-in-Err-clause-refused : goal.returns-in-Err-clause-refused
returns-in-Err-clause-refused c =
    not_taken_at c.args.zone c.args.requests.now c.loop-place.place _ c.loop-place.newest c.in-Err.fault c.loop-place.invariant c.loop-place-test.true
    (subst (λ (ms : List (Bor (List ℕ))). IsUpdateFault c.loop-place.newest.last.zone (map (λ (m : Bor (List ℕ)). m.now) ms) c.in-Err.fault) (c.deref.ensures.value ∙ ap (λ (v : Vec (Bor (List ℕ)) Global). v.items) c.index-requests-place.is)
    (fault_told _ _ _ _ c.in-Err.is c.in_ok-next.ensures))

pub loop-place-preserved : goal.loop-place-preserved
loop-place-preserved c =
    let made =
    subst (λ (ms : List (Bor (List ℕ))). IsMade c.loop-place.newest.last (map (λ (m : Bor (List ℕ)). m.now) ms) c.in-Ok.next) (c.deref.ensures.value ∙ ap (λ (v : Vec (Bor (List ℕ)) Global). v.items) c.index-requests-place.is)
    (made_told _ _ _ _ c.in-Ok.is c.in_ok-next.ensures) in
    one_more_replayed c.args.zone c.args.requests.now c.loop-place.place _ c.loop-place.newest c.push.new.self c.in-Ok.next c.loop-place.invariant c.loop-place-test.true
    made c.in_ok-push-in-Ok.ensures.last c.in_ok-push-in-Ok.ensures.older
