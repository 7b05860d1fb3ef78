use Rattle.std.proofs.Common.{◌≡◌, ◌∙◌, ◌++◌, sym, ap, length, arith}
use Rattle.std.proofs.lemmas.Grind.{common_steps}
use Rattle.shared_tree.specs.Links.{pairs_on_way}
use Rattle.shared_tree.proofs.LinkLemmas.{no_entries}
use Rattle.shared_tree.proofs.WayLemmas.{taken_pairs}
use Rattle.shared_tree.proofs.walk.rest_or_next.Goals as goal

-- the next run is the first on the right of the node that is taken
pub returns-in-Some-clause-pairs : goal.returns-in-Some-clause-pairs
returns-in-Some-clause-pairs g c =
    let none : length c.args.rest.now ≡ 0 = grind (arith, common_steps) in
    c.go_down.ensures.pairs ∙ sym (taken_pairs c.args.way.now.items c.take_lowest.new.way.items c.in-Some.node c.in-Some.ensures)
    ∙ ap (λ l. l ++ pairs_on_way c.args.way.now.items) (sym (no_entries c.args.rest.now none))
