use Rattle.std.proofs.Common.{◌≡◌, ◌<◌, List, length, Some, sym, ap, ◌∙◌, subst, arith}
use Rattle.std.specs.List.{slice_get}
use denote.Memory.{mem}
use Rattle.raw_slots.specs.Chains.{after, spots_from}
use Rattle.raw_slots.proofs.Chained.{along_is, cut_along, cut_at, first_at}
use Rattle.raw_slots.proofs.laid.lay_places.Goals as goal

pub of-requires : goal.of-requires
of-requires g c =
    let cut = c.cut_all.ensures.cut in
    let laid = c.in_ok-row.ensures.ok in
    let rest = c.cut_all.ensures.rest in
    let places = c.cut_all.new.places.items in
    let count : c.len-count.result ≡ length c.args.values.items = omega (arith, c.len-count.ensures, c.args.values.ok.0) in
    let some : 0 < length places = omega (arith, cut.1, count, c.requires.some) in
    let first : c.index.result.now.at ≡ c.in_ok-row.row.at = first_at _ c.in_ok-row.row.at c.in_ok-row.row.values places c.cut_all.new.spots.items c.index.result.now cut.0 some c.index.ensures in
    let total : c.len-count.result ≡ c.cut_all.new.row.total = count ∙ sym laid.1 ∙ sym rest.2 in (
      rest.0 ∙ ap (after g.row.T c.in_ok-row.row.at) total ∙ ap (λ p. after g.row.T p c.cut_all.new.row.total) (sym first),
      rest.1,
      laid.2 ∙ sym first,
      laid.3 ∙ sym count ∙ total,
    )

pub returns-clause-laid : goal.returns-clause-laid
returns-clause-laid g c =
    let cut = c.cut_all.ensures.cut in
    let laid = c.in_ok-row.ensures.ok in
    let rest = c.cut_all.ensures.rest in
    let places = c.cut_all.new.places.items in
    let spots = c.cut_all.new.spots.items in
    let count : c.len-count.result ≡ length c.args.values.items = omega (arith, c.len-count.ensures, c.args.values.ok.0) in
    let some : 0 < length places = omega (arith, cut.1, count, c.requires.some) in
    let first : c.index.result.now.at ≡ c.in_ok-row.row.at = first_at _ c.in_ok-row.row.at c.in_ok-row.row.values places spots c.index.result.now cut.0 some c.index.ensures in
    let total : c.len-count.result ≡ c.cut_all.new.row.total = count ∙ sym laid.1 ∙ sym rest.2 in
    let along = along_is g.row.T.Denot (mem g.row.T).size c.in_ok-row.row.at c.len-count.result spots (cut_along _ c.in_ok-row.row.at c.in_ok-row.row.values places spots c.len-count.result cut.0 cut.1) in (
      c.of.ensures.3 ∙ ap (λ p. spots_from (mem g.row.T).size p 0 c.cut_all.new.row.total) first ∙ ap (spots_from (mem g.row.T).size c.in_ok-row.row.at 0) (sym total) ∙ sym along,
      cut_at _ c.in_ok-row.row.at c.in_ok-row.row.values places spots cut.0,
      (λ k x e. subst (λ (l : List g.row.T.Denot). slice_get l k ≡ Some x.value) laid.0 (cut.0.each k x e).2),
      cut.1 ∙ count,
    )
