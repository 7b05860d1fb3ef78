use Rattle.std.proofs.Common.{◌≡◌, ◌∙◌, ap, sym, None}
use Rattle.std.specs.Option.{option_copied}
use Rattle.shared_tree.specs.Fronts.{front_at}
use Rattle.shared_tree.specs.Links.{IsTree}
use Rattle.shared_tree.specs.Pairs.{pair_at}
use Rattle.shared_tree.proofs.PairLemmas.{filter_ascends, without_absent}
use Rattle.shared_tree.proofs.tree.Tree.without.Goals as goal

-- no pair has the key
pub returns-in_ok-share-in-None-clause-pairs : goal.returns-in_ok-share-in-None-clause-pairs
returns-in_ok-share-in-None-clause-pairs g c =
    let found : pair_at g.K.Ord.cmp (g.Q.Seek.key c.args.sought.now) c.args.self.now.pairs ≡ None = sym (c.pair.ensures) ∙ ap option_copied c.in-None.is in
    rw c.in_ok-share-in-None.ensures (sym (without_absent g.K.Ord.cmp (g.Q.Seek.key c.args.sought.now) c.args.self.now.pairs found))

-- the pairs that are left ascend, and each has its number
pub invariant_of-result : goal.invariant_of-result
invariant_of-result g c =
    let front = front_at g.K.Front.front c.in_ok-base-in-Some.base in
    let tree : IsTree g.K.Ord.cmp front c.self.inside.root = rw c.in_ok-base-in-Some.ensures c.self.invariant in
    record {
      ascends = rw (c.in_ok-root-in-Some.ensures.pairs front tree) (filter_ascends g.K.Ord.cmp _ _ tree.ascends);
      formed = c.in_ok-root-in-Some.ensures.formed tree.formed;
      parted = c.in_ok-root-in-Some.ensures.parted front tree;
    }

-- those that are left of the root
pub returns-in_ok-root-in-Some-clause-pairs : goal.returns-in_ok-root-in-Some-clause-pairs
returns-in_ok-root-in-Some-clause-pairs g c =
    let front = front_at g.K.Front.front c.in_ok-base-in-Some.base in
    let tree : IsTree g.K.Ord.cmp front c.self.inside.root = rw c.in_ok-base-in-Some.ensures c.self.invariant in
    rw (← c.self.view_is) (c.in_ok-root-in-Some.ensures.pairs front tree)
