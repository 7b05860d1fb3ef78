use Rattle.std.proofs.Common.{◌≡◌, ℕ, suc, ◌+◌, ◌<◌, ◌≤◌, List, [], ◌∷◌, ◌++◌, length, map, sym, ap, ◌∙◌, subst, arith}
use Rattle.raw_slots.specs.Rows.{next_to}
use Rattle.raw_slots.specs.Chains.{after, IsCut}
use Rattle.raw_slots.specs.declared.place.Place.{Place}
use Rattle.raw_slots.specs.declared.place.Spot.{Spot}
use Rattle.raw_slots.proofs.Chained.{cut_more, map_snoc, length_snoc}
use Rattle.raw_slots.proofs.laid.cut_all.Goals as goal

pub loop-i-preserved : goal.loop-i-preserved
loop-i-preserved g c = let inv = c.loop-i.invariant in let i : ℕ = c.loop-i.i in let cut = c.cut-place.ensures in let T : Type 0 = g.row.T.Denot in let P : Type 0 = Place T g.row.V.Denot in
    let x : P = c.cut-place.result in let ys : List T = c.cut-place.new.self.values in let s : Spot T = c.spot.result in let places : List P = c.loop-i.places.items in let spots : List (Spot T) = c.loop-i.spots.items in
    let v : P → T = λ y. y.value in let next : i + 1 ≡ suc i = omega arith in let test : i < c.args.count = c.loop-i-test.true in let far : i + 1 ≤ c.args.count = omega arith in
    let longer : length c.loop-i.row.values ≡ suc (length ys) = ap (λ (l : List T). length l) cut.0 in let sum : length c.loop-i.row.values + i ≡ c.args.count = inv.1 in let left : length ys + (i + 1) ≡ c.args.count = omega arith in
    let got = c.push_reserved-in-loop-i.ensures.items ∙ ap (λ (u : P). places ++ u ∷ []) c.spot.ensures.1 in let marked = c.push_reserved.ensures.items in
    let whole : map v places ++ v x ∷ ys ≡ c.args.row.now.values = ap (λ (l : List T). map v places ++ l) (sym cut.0) ∙ inv.8 in
    let at : x.at ≡ after g.row.T c.args.row.now.at (length places) = cut.2 ∙ inv.2 ∙ ap (after g.row.T c.args.row.now.at) (sym inv.4) in
    let more = cut_more g.row.T c.args.row.now.at c.args.row.now.values places spots x s ys inv.9 at cut.1 c.spot.ensures.0 whole in (
      far,
      left,
      cut.3 ∙ ap (next_to g.row.T) inv.2 ∙ ap (after g.row.T c.args.row.now.at) (sym next),
      cut.4 ∙ inv.3,
      ap (λ (l : List P). length l) got ∙ length_snoc places x ∙ ap suc inv.4 ∙ sym next,
      ap (λ (l : List (Spot T)). length l) marked ∙ length_snoc spots s ∙ ap suc inv.5 ∙ sym next,
      c.push_reserved-in-loop-i.ensures.len ∙ ap (λ (n : ℕ). n + 1) inv.6,
      c.push_reserved.ensures.len ∙ ap (λ (n : ℕ). n + 1) inv.7,
      ap (λ (l : List P). map v l ++ ys) got ∙ map_snoc v places x ys ∙ whole,
      subst (λ (l : List P). IsCut g.row.T c.args.row.now.at c.args.row.now.values l c.push_reserved.new.self.items) (sym got) (subst (λ (l : List (Spot T)). IsCut g.row.T c.args.row.now.at c.args.row.now.values (places ++ x ∷ []) l) (sym marked) more),
      c.push_reserved-in-loop-i.ensures.capacity ∙ inv.10,
      c.push_reserved.ensures.capacity ∙ inv.11,
    )
