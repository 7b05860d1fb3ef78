use Rattle.std.proofs.Common.{◌≡◌, length, sym, ap, ◌∙◌, arith}
use Rattle.lookup_core.proofs.AdditionalLemmas.{count_of_sets}
use Rattle.lookup_core.proofs.additional.Additional.is_full.Goals as goal

pub returns : goal.returns
returns c =
    let count : length c.args.self.now ≡ length c.self.inside.shown.items = ap length (sym c.self.view_is) ∙ count_of_sets c.self.inside.shown.items c.self.invariant in
    grind (arith, count, c.is_full.ensures.value, c.is_full.ensures.fits)
