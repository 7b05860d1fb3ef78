use Rattle.std.proofs.Common.{rules}
use Rattle.std.specs.Ordering.{nat_cmp}
use Rattle.std.specs.Cmp.Lexicographic.{slice_cmp}
use Rattle.std.proofs.lemmas.Fn.{always_returns_same}
use Rattle.update_core.proofs.SearchLemmas.{placed}
use Rattle.update_core.proofs.ordered.place_of.Goals as goal

-- the closure compares data with those sought
pub returns : goal.returns
returns c =
    let search_facts = c.binary_search_by.ensures in
    let by_octets = search_facts.position (λ d. slice_cmp nat_cmp d.octets c.args.octets.now) (always_returns_same _ _ _ (λ a r f' called. search rules)) in
    rw c.ok.ensures.value (placed c.args.all.now c.args.octets.now c.requires _ search_facts.bound by_octets)
