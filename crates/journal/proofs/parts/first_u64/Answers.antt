use Rattle.std.proofs.Common.{List, ℕ, ◌++◌, ap, sym, ◌∙◌, arith, rules}
use Rattle.std.proofs.lemmas.Nat.{be_bytes_8}
use Rattle.journal.proofs.PartLemmas.{front_small}
use Rattle.journal.proofs.parts.first_u64.Goals as goal

pub returns : goal.returns
returns c =
    let small = front_small c.args.octets.now c.in_ok-part.part.now c.in_ok-part.rest.now c.in_ok-part.ensures.0 (λ i. omega (arith, c.type_inv.octets i)) in
    let same = be_bytes_8 c.in_ok-part.part.now c.from_be_bytes.result c.in_ok-part.ensures.1 small c.from_be_bytes.ensures in
    (c.in_ok-part.ensures.0 ∙ ap (λ (o : List ℕ). o ++ c.in_ok-part.rest.now) (sym same), c.in_ok-part.ensures.2, search rules)
