use Rattle.std.proofs.Common.{[], ◌∷◌, ◌+◌, ◌≤◌, length, arith}
use Rattle.std.proofs.lemmas.List.{length-append}
use Rattle.dns_name.specs.Stored.{octets_stored}
use Rattle.dns_name.proofs.LastLemmas.{room_for}
use Rattle.dns_name.proofs.stored.put_octets.Goals as goal

pub push-requires : goal.push-requires
push-requires c =
    let both = length-append c.args.to.now.items (octets_stored c.args.piece.now) in
    let room : length c.loop-octet.to.items + 1 ≤ 255 =
    room_for _ _ (c.in-Some.octet ∷ []) (octets_stored c.in-Some.behind.now) _ 255 c.loop-octet.invariant c.in-Some.ensures.octet (omega (arith, c.requires))
    in
    (omega arith, omega arith)
