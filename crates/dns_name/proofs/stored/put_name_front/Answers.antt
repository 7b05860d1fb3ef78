use Rattle.std.proofs.Common.{◌≡◌, ◌∙◌, ◌++◌, [], List, ℕ, length, reverse, sym, ap, arith}
use Rattle.std.specs.List.{refill}
use Rattle.dns_name.specs.Gather.{front_of}
use Rattle.dns_name.specs.Stored.{labels_stored, name_stored, IsStored, IsPlain}
use Rattle.dns_name.proofs.PieceLemmas.{closed_of, plain_size, refill_whole, room_of}
use Rattle.dns_name.proofs.StoredLemmas.{short_labels}
use Rattle.dns_name.proofs.stored.put_name_front.Goals as goal

pub append-requires : goal.append-requires
append-requires c =
    let size = plain_size _ (closed_of _ c.requires.stored) (sym c.if-contains.ensures.value) in
    omega (arith, ap length c.requires.empty, room_of _ c.requires.stored)

pub write_front-requires-clause-closed : goal.write_front-requires-clause-closed
write_front-requires-clause-closed c = closed_of _ c.requires.stored

pub write_front-requires-clause-plain : goal.write_front-requires-clause-plain
write_front-requires-clause-plain c = sym c.if-contains.ensures.value

pub write_front-requires-clause-short : goal.write_front-requires-clause-short
write_front-requires-clause-short c = short_labels _ c.requires.stored.name.labels

-- the octets that were written over those stored are all
laid : (octets before to own : List ℕ) → IsStored octets → IsPlain octets → before ≡ [] → to ≡ before ++ octets → own ≡ front_of (reverse (labels_stored octets)) → refill (length to) to own ≡ front_of (name_stored octets)
laid octets before to own stored plain none put e =
    let size = ap length e ∙ plain_size octets (closed_of octets stored) plain in
    let is : to ≡ octets = rw none at put in
    refill_whole to own (size ∙ ap length (sym is)) ∙ e

pub returns : goal.returns
returns c = laid c.args.octets.now _ _ _ c.requires.stored (sym c.if-contains.ensures.value) c.requires.empty c.append.ensures c.write_front.ensures
