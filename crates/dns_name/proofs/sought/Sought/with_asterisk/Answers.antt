use Rattle.std.proofs.Common.{◌≡◌, ◌∙◌, ◌++◌, ◌∷◌, [], List, ℕ, length, sym, ap, subst, arith}
use Rattle.std.proofs.lemmas.List.{length-append}
use Rattle.dns_name.specs.Stored.{name_stored, IsStored}
use Rattle.dns_name.proofs.BelowLemmas.{stored_fits, wild_at, wild_room}
use Rattle.dns_name.proofs.sought.Sought.with_asterisk.Goals as goal

pub put_octets-requires : goal.put_octets-requires
put_octets-requires c = stored_fits _ c.octets.ensures.stored

pub push-requires : goal.push-requires
push-requires c =
    let room = wild_room _ _ c.octets.ensures.stored c.octets.ensures.name c.requires in
    let put = ap length c.put_octets.ensures in
    omega arith

pub push-requires-2 : goal.push-requires-2
push-requires-2 c =
    let room = wild_room _ _ c.octets.ensures.stored c.octets.ensures.name c.requires in
    let put = ap length c.put_octets.ensures in
    let more = ap length c.push.ensures.items in
    let one = length-append c.put_octets.new.to.items (42 ∷ []) in
    omega arith

-- the octets in the room
put : (octets room one : List ℕ) → room ≡ octets → one ≡ room ++ 42 ∷ [] → one ≡ octets ++ 42 ∷ []
put octets room one e f = rw (← e) f

pub invariant_of-result : goal.invariant_of-result
invariant_of-result c =
    let wild = wild_at _ _ _ _ c.octets.ensures.stored c.octets.ensures.name (put _ _ _ c.put_octets.ensures c.push.ensures.items) c.push-2.ensures.items c.requires in
    subst IsStored (sym c.as_slice.ensures.value) wild.stored

pub returns : goal.returns
returns c =
    let wild = wild_at _ _ _ _ c.octets.ensures.stored c.octets.ensures.name (put _ _ _ c.put_octets.ensures c.push.ensures.items) c.push-2.ensures.items c.requires in
    ap name_stored c.as_slice.ensures.value ∙ wild.named
