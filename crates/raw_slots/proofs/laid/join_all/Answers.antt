use Rattle.std.proofs.Common.{◌≡◌, suc, ◌+◌, ◌≤◌, List, [], ◌∷◌, ◌++◌, length, map, sym, ap, ◌∙◌, subst, arith}
use Rattle.raw_slots.specs.Chains.{IsChain}
use Rattle.raw_slots.specs.declared.place.Place.{Place}
use Rattle.raw_slots.proofs.Chained.{map_snoc, length_snoc, chain_last, chain_less}
use Rattle.raw_slots.proofs.laid.join_all.Goals as goal

pub loop-place-preserved : goal.loop-place-preserved
loop-place-preserved g c = let inv = c.loop-place.invariant in let joined = c.join.ensures in let T : Type 0 = g.row.T.Denot in let P : Type 0 = Place T g.row.V.Denot in let x : P = c.in-Some.place in
    let rest : List P = c.pop.new.self.items in let had : List P = c.loop-place.places.items in let v : P → T = λ y. y.value in let split : had ≡ rest ++ x ∷ [] = c.in-Some.ensures.items in
    let chain = subst (λ (l : List P). IsChain g.row.T c.args.first.at l) split inv.1 in let last = chain_last g.row.T c.args.first.at rest x chain in
    let count : length had ≡ suc (length rest) = ap (λ (l : List P). length l) split ∙ length_snoc rest x in let longer : length c.join.new.self.values ≡ suc (length c.loop-place.row.values) = ap (λ (l : List T). length l) joined.0 in
    let total : c.join.new.self.total ≡ c.loop-place.row.total = joined.2 in let fits : length had + length c.loop-place.row.values ≤ c.loop-place.row.total = inv.3 in
    let room : length rest + length c.join.new.self.values ≤ c.join.new.self.total = omega arith in (
      ap (λ (l : List T). map v rest ++ l) joined.0 ∙ sym (map_snoc v rest x c.loop-place.row.values) ∙ ap (λ (l : List P). map v l ++ c.loop-place.row.values) (sym split) ∙ inv.0,
      chain_less g.row.T c.args.first.at rest x chain,
      joined.1 ∙ last.0,
      room,
      total ∙ inv.4,
    )
