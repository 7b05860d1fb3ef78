use Rattle.std.proofs.Common.{◌≡◌, ◌∙◌, ◌/◌, ◌<◌, ◌++◌, sym, subst, length, take, drop, arith}
use Rattle.std.proofs.lemmas.List.{take-append-drop}
use Rattle.std.proofs.lemmas.Result.{IfOk-weaker}
use Rattle.shared_tree.specs.Links.{run_pairs, link_pairs, IsFronted, AreFronted}
use Rattle.shared_tree.proofs.LinkLemmas.{entry_parting}
use Rattle.shared_tree.proofs.PairLemmas.{each_front, each_behind}
use Rattle.shared_tree.proofs.RunLemmas.{run_halves, first_parting}
use Rattle.shared_tree.proofs.node.Maker.halved.Goals as goal

-- both halves have all pairs
pub returns-clause-pairs : goal.returns-clause-pairs
returns-clause-pairs g c =
    let items = c.args.entries.items in
    let all : link_pairs c.in_ok-left.left ++ link_pairs c.in_ok-right.right ≡ run_pairs items =
    rw (c.in_ok-left.ensures.pairs, c.in_ok-right.ensures.pairs, c.shrink_to_fit.ensures.items, c.in_ok-behind.ensures.items, c.in_ok-behind.ensures.tail) (run_halves items (c.len-middle.result / 2)) in
    IfOk-weaker c.fork.result (λ link. link_pairs link ≡ link_pairs c.in_ok-left.left ++ link_pairs c.in_ok-right.right) (λ link. link_pairs link ≡ run_pairs items)
    (λ link e. e ∙ all) c.fork.ensures.pairs

-- the first pair of the one behind parts them
pub returns-clause-parted : goal.returns-clause-parted
returns-clause-parted g c front own =
    let items = c.args.entries.items in
    let middle = c.len-middle.result / 2 in
    let behind = c.in_ok-behind.behind.items in
    let both = subst (AreFronted front) (sym (take-append-drop middle items)) own in
    let first : AreFronted front c.shrink_to_fit.new.self.items = rw (c.shrink_to_fit.ensures.items, c.in_ok-behind.ensures.items) (each_front (IsFronted front) (take middle items) (drop middle items) both) in
    let last : AreFronted front behind = rw c.in_ok-behind.ensures.tail (each_behind (IsFronted front) (take middle items) (drop middle items) both) in
    let some : 0 < length c.shrink_to_fit.new.self.items = omega (arith, c.shrink_to_fit.new.self.ok.0, c.shrink_to_fit.ensures.len, c.in_ok-behind.ensures.len, c.len-middle.ensures) in
    let more : 0 < length behind = omega (arith, c.in_ok-behind.behind.ok.0, c.in_ok-behind.ensures.tail_len, c.len-middle.ensures) in
    c.fork.ensures.parted front
    (entry_parting front c.in_ok-parting.parting c.index.result.now (run_pairs behind) (link_pairs c.in_ok-right.right) c.in_ok-parting.ensures.front c.in_ok-parting.ensures.pair c.in_ok-right.ensures.pairs (first_parting front c.index.result.now behind more c.index.ensures last))
    (c.in_ok-left.ensures.parted front (some, first))
    (c.in_ok-right.ensures.parted front (more, last))
