use Rattle.std.proofs.Common.{◌<◌, ◌≤◌, ◌^◌, ℕ, List, Bor, Vec, Global, length, map, ap, subst, ◌∙◌, string_bytes, arith, rules}
use Rattle.store_recovery.specs.Replay.{IsMade, IsUpdateFault}
use Rattle.store_recovery.proofs.ReplayLemmas.{made_told, fault_told}
use Rattle.stored_changes.proofs.WalkLemmas.{one_more_walked, walked_number, not_taken_at}
use Rattle.stored_changes.proofs.walk.walk.Goals as goal

pub next_version-requires : goal.next_version-requires
next_version-requires c =
    let within : c.loop-place.place < length c.args.requests.now = c.loop-place-test.true in
    let fits : length c.args.requests.now < 2 ^ 64 = search rules in
    let few : c.loop-place.place ≤ length c.args.requests.now = omega (arith, within) in
    let number = walked_number c.args.zone c.args.requests.now c.loop-place.place c.loop-place.last (string_bytes c.loop-place.reported) c.loop-place.invariant few in
    omega (arith, within, fits, number)

pub put_version-requires : goal.put_version-requires
put_version-requires c =
    let made = made_told _ _ _ _ c.in-Ok.is c.in_ok-next.ensures in
    made.makes.changes

pub returns-in-Err-clause-refused : goal.returns-in-Err-clause-refused
returns-in-Err-clause-refused c =
    not_taken_at c.args.zone c.args.requests.now c.loop-place.place _ c.loop-place.last (string_bytes c.loop-place.reported) c.in-Err.fault c.loop-place.invariant c.loop-place-test.true
    (subst (λ (ms : List (Bor (List ℕ))). IsUpdateFault c.loop-place.last.zone (map (λ (m : Bor (List ℕ)). m.now) ms) c.in-Err.fault)
    (c.deref.ensures.value ∙ ap (λ (v : Vec (Bor (List ℕ)) Global). v.items) c.index-requests-place.is) (fault_told _ _ _ _ c.in-Err.is c.in_ok-next.ensures))

pub loop-place-preserved : goal.loop-place-preserved
loop-place-preserved c =
    let made =
    subst (λ (ms : List (Bor (List ℕ))). IsMade c.loop-place.last (map (λ (m : Bor (List ℕ)). m.now) ms) c.in-Ok.next)
    (c.deref.ensures.value ∙ ap (λ (v : Vec (Bor (List ℕ)) Global). v.items) c.index-requests-place.is) (made_told _ _ _ _ c.in-Ok.is c.in_ok-next.ensures) in
    one_more_walked c.args.zone c.args.requests.now c.loop-place.place _ c.loop-place.last c.in-Ok.next (string_bytes c.loop-place.reported) _ c.loop-place.invariant c.loop-place-test.true
    made c.in_ok-put_version-in-Ok.ensures
