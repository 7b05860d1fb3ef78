use Rattle.std.proofs.Common.{◌∙◌, ◌+◌, ◌≤◌, ◌∷◌, ◌++◌, length, sym, ap, arith}
use Rattle.dns_name.specs.Gather.{front_of}
use Rattle.dns_name.specs.Stored.{octets_stored, name_stored}
use Rattle.dns_name.proofs.LastLemmas.{front_at, lawful_first, lawful_front, put_next, room_for}
use Rattle.dns_name.proofs.PieceLemmas.{room_of}
use Rattle.dns_name.proofs.stored.put_escaped_front.Goals as goal

pub put_piece-requires-clause-room : goal.put_piece-requires-clause-room
put_piece-requires-clause-room c =
    let label = octets_stored c.in-Some.piece.now in
    let all = room_of c.args.octets.now c.requires.stored in
    let room : length c.loop-front.to.items + length (length label ∷ label) ≤ 254 =
    room_for _ _ (length label ∷ label) (front_of (name_stored c.in-Some.front.now)) _ 254 c.loop-front.invariant.put (front_at _ _ _ c.in-Some.ensures) (omega arith)
    in
    omega arith

pub put_piece-requires-clause-short : goal.put_piece-requires-clause-short
put_piece-requires-clause-short c = omega (arith, lawful_first _ _ _ c.in-Some.ensures c.loop-front.invariant.lawful)

pub loop-front-preserved : goal.loop-front-preserved
loop-front-preserved c =
    let last = c.in-Some.ensures in
    let before = c.loop-front.to.items in
    record {
      closed = last.closed;
      lawful = lawful_front _ _ _ last c.loop-front.invariant.lawful;
      put = put_next _ before _ _ _ c.put_piece.ensures (ap (λ os. before ++ os) (sym (front_at _ _ _ last)) ∙ c.loop-front.invariant.put);
    }
