use Rattle.std.proofs.Common.{◌≡◌, ◌∙◌, sym, ap, subst, Some}
use Rattle.std.specs.Option.{option_or, option_copied}
use Rattle.std.specs.declared.cmp.Ordering.TheVariants.{Less, Equal, Greater}
use Rattle.shared_tree.specs.Fronts.{front_at}
use Rattle.shared_tree.specs.Links.{link_pairs, IsParted}
use Rattle.shared_tree.specs.Pairs.{IsAscending, pair_after}
use Rattle.shared_tree.specs.declared.node.Node.{Node}
use Rattle.shared_tree.proofs.PairLemmas.{or_some}
use Rattle.shared_tree.proofs.PartLemmas.{less_parted, equal_parted, greater_parted}
use Rattle.shared_tree.proofs.look.around_in.Goals as goal

-- the key is less than the entry's: its pair is on the left, or the entry's comes behind it
pub loop-below-preserved-in-Less : goal.loop-below-preserved-in-Less
loop-below-preserved-in-Less g c =
    let n = c.in-Fork.node.value in
    let cmp = g.K.Ord.cmp in
    let key = g.Q.Seek.key c.args.sought.now in
    let whole = rw c.in-Fork.is at c.loop-below.invariant.ascends in
    let at = rw c.in-Fork.is at c.loop-below.invariant.at in
    let parted = rw c.in-Fork.is at c.loop-below.invariant.parted in
    let before = rw c.in-Fork.is at c.loop-below.invariant.before in
    let behind = rw c.in-Fork.is at c.loop-below.invariant.behind in
    let e : cmp key n.entry.pair.value.0 ≡ Less = cc in
    let here = less_parted g.met.K.Ord.total key (link_pairs n.left) (link_pairs n.right) n.entry.pair.value parted.0.0 whole e in
    let is : c.deref-in-Less-2.result.now ≡ n.entry.pair.value = cc in
    let sides = c.deref-in-Less-3.ensures in
    record {
      ascends = subst (λ (node : Node g.row.K.Denot g.row.V.Denot). IsAscending cmp (link_pairs node.left)) (sym sides) here.ascends;
      parted = subst (λ (node : Node g.row.K.Denot g.row.V.Denot). IsParted (front_at g.K.Front.front c.args.base.now) node.left) (sym sides) parted.1;
      at = rw sides (sym here.at ∙ at);
      before = rw sides (sym here.before ∙ before);
      behind = rw (sides, is) (sym (or_some (pair_after cmp key (link_pairs n.left)) (option_copied c.loop-below.behind) n.entry.pair.value) ∙ ap (λ o. option_or o (option_copied c.loop-below.behind)) (sym here.after) ∙ behind);
    }

-- the key is the entry's
pub returns-in-Equal-clause-at : goal.returns-in-Equal-clause-at
returns-in-Equal-clause-at g c =
    let n = c.in-Fork.node.value in
    let cmp = g.K.Ord.cmp in
    let key = g.Q.Seek.key c.args.sought.now in
    let whole = rw c.in-Fork.is at c.loop-below.invariant.ascends in
    let at = rw c.in-Fork.is at c.loop-below.invariant.at in
    let parted = rw c.in-Fork.is at c.loop-below.invariant.parted in
    let e : cmp key n.entry.pair.value.0 ≡ Equal = cc in
    let here = equal_parted g.met.K.Ord.total key (link_pairs n.left) (link_pairs n.right) n.entry.pair.value parted.0.0 whole e in
    let is : c.deref-in-Equal-2.result.now ≡ n.entry.pair.value = cc in
    ap Some is ∙ sym here.at ∙ at

-- the key is greater than the entry's: its pair is on the right, and so are those next to it
pub loop-below-preserved : goal.loop-below-preserved
loop-below-preserved g c =
    let n = c.in-Fork.node.value in
    let cmp = g.K.Ord.cmp in
    let key = g.Q.Seek.key c.args.sought.now in
    let whole = rw c.in-Fork.is at c.loop-below.invariant.ascends in
    let at = rw c.in-Fork.is at c.loop-below.invariant.at in
    let parted = rw c.in-Fork.is at c.loop-below.invariant.parted in
    let before = rw c.in-Fork.is at c.loop-below.invariant.before in
    let behind = rw c.in-Fork.is at c.loop-below.invariant.behind in
    let e : cmp key n.entry.pair.value.0 ≡ Greater = cc in
    let here = greater_parted g.met.K.Ord.total key (link_pairs n.left) (link_pairs n.right) n.entry.pair.value parted.0.0 whole e in
    let sides = c.deref-in-Greater.ensures in
    record {
      ascends = subst (λ (node : Node g.row.K.Denot g.row.V.Denot). IsAscending cmp (link_pairs node.right)) (sym sides) here.ascends;
      parted = subst (λ (node : Node g.row.K.Denot g.row.V.Denot). IsParted (front_at g.K.Front.front c.args.base.now) node.right) (sym sides) parted.2;
      at = rw sides (sym here.at ∙ at);
      before = rw sides (sym here.before ∙ before);
      behind = rw sides (ap (λ o. option_or o (option_copied c.loop-below.behind)) (sym here.after) ∙ behind);
    }
