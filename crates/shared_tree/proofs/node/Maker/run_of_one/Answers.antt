use Rattle.std.proofs.Common.{◌≡◌, ◌∷◌, [], ◌<◌, ap, length, arith}
use Rattle.shared_tree.specs.Links.{run_pairs, AreFronted}
use Rattle.shared_tree.proofs.LinkLemmas.{run_length}
use Rattle.shared_tree.proofs.node.Maker.run_of_one.Goals as goal

-- it is the only one
pub returns-clause-parted : goal.returns-clause-parted
returns-clause-parted g c front own =
    let items = c.push_entry.new.entries.items in
    let pairs : run_pairs items ≡ c.args.entry.pair.value ∷ [] = rw c.in_ok-entries.ensures.items at c.in_ok-push_entry.ensures.pairs in
    let none : AreFronted front c.in_ok-entries.entries.items = rw c.in_ok-entries.ensures.items tt in
    let some : 0 < length items = omega (arith, run_length items, ap length pairs) in
    c.run.ensures.parted front (some, c.in_ok-push_entry.ensures.fronted front none own)
