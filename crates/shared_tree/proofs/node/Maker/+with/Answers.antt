use Rattle.std.proofs.Common.{◌≡◌, ◌∙◌, ◌++◌, sym, ap, subst, Some}
use Rattle.std.specs.declared.cmp.Ordering.TheVariants.{Less, Equal, Greater}
use Rattle.shared_tree.specs.declared.node.Node.{Node}
use Rattle.shared_tree.specs.Links.{link_pairs, IsTree, IsParting, IsParted}
use Rattle.shared_tree.specs.Pairs.{pairs_with, first_pair}
use Rattle.shared_tree.proofs.LinkLemmas.{entry_fronted, node_parted}
use Rattle.shared_tree.proofs.PartLemmas.{less_parted, equal_parted, greater_parted}
use Rattle.shared_tree.proofs.node.Maker.+with.Goals as goal

-- the key is less than the entry's: the pair goes to the left
pub returns-in_ok-left-in-Less-clause-pairs : goal.returns-in_ok-left-in-Less-clause-pairs
returns-in_ok-left-in-Less-clause-pairs g t c front tree =
    let n = c.in-Fork.node.value in
    let cmp = g.K.Ord.cmp in
    let pair = c.args.entry.pair.value in
    let key = pair.0 in
    let whole = rw c.in-Fork.is at tree.ascends in
    let formed = rw c.in-Fork.is at tree.formed in
    let parted = rw c.in-Fork.is at tree.parted in
    let e : cmp key n.entry.pair.value.0 ≡ Less = cc in
    let here = less_parted g.met.K.Ord.total key (link_pairs n.left) (link_pairs n.right) n.entry.pair.value parted.0.0 whole e in
    let side : IsTree cmp front (Some c.deref-in-Less.result.now.left) =
    subst (λ (node : Node g.row.K.Denot g.row.V.Denot). IsTree cmp front (Some node.left)) (sym c.deref-in-Less.ensures) (record { ascends = here.ascends; formed = formed.2; parted = parted.1 }) in
    let placed : link_pairs c.in_ok-left-in-Less.left ≡ pairs_with cmp key pair.1 (link_pairs n.left) = rw c.deref-in-Less.ensures at (c.in_ok-left-in-Less.ensures.pairs front side) in
    let all : pairs_with cmp key pair.1 (link_pairs c.args.link.now) ≡ link_pairs c.in_ok-left-in-Less.left ++ link_pairs n.right = rw (c.in-Fork.is, placed) (here.put pair.1) in
    rw all (rw c.deref-in-Less-2.ensures at c.with_left.ensures.pairs)

pub returns-in_ok-left-in-Less-clause-parted : goal.returns-in_ok-left-in-Less-clause-parted
returns-in_ok-left-in-Less-clause-parted g t c front own tree =
    let n = c.in-Fork.node.value in
    let cmp = g.K.Ord.cmp in
    let pair = c.args.entry.pair.value in
    let key = pair.0 in
    let whole = rw c.in-Fork.is at tree.ascends in
    let formed = rw c.in-Fork.is at tree.formed in
    let parted = rw c.in-Fork.is at tree.parted in
    let e : cmp key n.entry.pair.value.0 ≡ Less = cc in
    let here = less_parted g.met.K.Ord.total key (link_pairs n.left) (link_pairs n.right) n.entry.pair.value parted.0.0 whole e in
    let side : IsTree cmp front (Some c.deref-in-Less.result.now.left) =
    subst (λ (node : Node g.row.K.Denot g.row.V.Denot). IsTree cmp front (Some node.left)) (sym c.deref-in-Less.ensures) (record { ascends = here.ascends; formed = formed.2; parted = parted.1 }) in
    c.with_left.ensures.parted front (c.in_ok-left-in-Less.ensures.parted front own side) (node_parted front c.deref-in-Less-2.ensures parted)

-- the key is the entry's: the pair is put over the first one on the right, and parts the sides
pub returns-in_ok-share-in-Equal-clause-pairs : goal.returns-in_ok-share-in-Equal-clause-pairs
returns-in_ok-share-in-Equal-clause-pairs g t c front tree =
    let n = c.in-Fork.node.value in
    let cmp = g.K.Ord.cmp in
    let pair = c.args.entry.pair.value in
    let key = pair.0 in
    let whole = rw c.in-Fork.is at tree.ascends in
    let formed = rw c.in-Fork.is at tree.formed in
    let parted = rw c.in-Fork.is at tree.parted in
    let e : cmp key n.entry.pair.value.0 ≡ Equal = cc in
    let here = equal_parted g.met.K.Ord.total key (link_pairs n.left) (link_pairs n.right) n.entry.pair.value parted.0.0 whole e in
    let side : IsTree cmp front (Some c.deref-in-Equal.result.now.right) =
    subst (λ (node : Node g.row.K.Denot g.row.V.Denot). IsTree cmp front (Some node.right)) (sym c.deref-in-Equal.ensures) (record { ascends = here.ascends; formed = formed.3; parted = parted.2 }) in
    let placed : link_pairs c.in_ok-right-in-Equal.right ≡ pairs_with cmp key pair.1 (link_pairs n.right) = rw c.deref-in-Equal.ensures at (c.in_ok-right-in-Equal.ensures.pairs front side) in
    let left : link_pairs c.in_ok-share-in-Equal.field-0 ≡ link_pairs n.left = rw c.deref-in-Equal-2.ensures at c.in_ok-share-in-Equal.ensures.pairs in
    let all : pairs_with cmp key pair.1 (link_pairs c.args.link.now) ≡ link_pairs c.in_ok-share-in-Equal.field-0 ++ link_pairs c.in_ok-right-in-Equal.right = rw (c.in-Fork.is, left, placed) (here.put pair.1) in
    rw all c.join.ensures.pairs

pub returns-in_ok-share-in-Equal-clause-parted : goal.returns-in_ok-share-in-Equal-clause-parted
returns-in_ok-share-in-Equal-clause-parted g t c front own tree =
    let n = c.in-Fork.node.value in
    let cmp = g.K.Ord.cmp in
    let pair = c.args.entry.pair.value in
    let key = pair.0 in
    let whole = rw c.in-Fork.is at tree.ascends in
    let formed = rw c.in-Fork.is at tree.formed in
    let parted = rw c.in-Fork.is at tree.parted in
    let e : cmp key n.entry.pair.value.0 ≡ Equal = cc in
    let here = equal_parted g.met.K.Ord.total key (link_pairs n.left) (link_pairs n.right) n.entry.pair.value parted.0.0 whole e in
    let side : IsTree cmp front (Some c.deref-in-Equal.result.now.right) =
    subst (λ (node : Node g.row.K.Denot g.row.V.Denot). IsTree cmp front (Some node.right)) (sym c.deref-in-Equal.ensures) (record { ascends = here.ascends; formed = formed.3; parted = parted.2 }) in
    let placed : link_pairs c.in_ok-right-in-Equal.right ≡ pairs_with cmp key pair.1 (link_pairs n.right) = rw c.deref-in-Equal.ensures at (c.in_ok-right-in-Equal.ensures.pairs front side) in
    let first = ap first_pair placed ∙ here.first pair.1 ∙ ap Some (sym c.in_ok-parting-in-Equal.ensures.pair) in
    let left = subst (λ (node : Node g.row.K.Denot g.row.V.Denot). IsParted front node.left) (sym c.deref-in-Equal-2.ensures) parted.1 in
    c.join.ensures.parted front
    (first, entry_fronted front c.in_ok-parting-in-Equal.parting c.args.entry c.in_ok-parting-in-Equal.ensures.front c.in_ok-parting-in-Equal.ensures.pair own)
    (c.in_ok-share-in-Equal.ensures.parted front left)
    (c.in_ok-right-in-Equal.ensures.parted front own side)

-- the key is greater than the entry's: the pair goes to the right, behind the first one
pub returns-in_ok-right-in-Greater-clause-pairs : goal.returns-in_ok-right-in-Greater-clause-pairs
returns-in_ok-right-in-Greater-clause-pairs g t c front tree =
    let n = c.in-Fork.node.value in
    let cmp = g.K.Ord.cmp in
    let pair = c.args.entry.pair.value in
    let key = pair.0 in
    let whole = rw c.in-Fork.is at tree.ascends in
    let formed = rw c.in-Fork.is at tree.formed in
    let parted = rw c.in-Fork.is at tree.parted in
    let e : cmp key n.entry.pair.value.0 ≡ Greater = cc in
    let here = greater_parted g.met.K.Ord.total key (link_pairs n.left) (link_pairs n.right) n.entry.pair.value parted.0.0 whole e in
    let side : IsTree cmp front (Some c.deref-in-Greater.result.now.right) =
    subst (λ (node : Node g.row.K.Denot g.row.V.Denot). IsTree cmp front (Some node.right)) (sym c.deref-in-Greater.ensures) (record { ascends = here.ascends; formed = formed.3; parted = parted.2 }) in
    let placed : link_pairs c.in_ok-right-in-Greater.right ≡ pairs_with cmp key pair.1 (link_pairs n.right) = rw c.deref-in-Greater.ensures at (c.in_ok-right-in-Greater.ensures.pairs front side) in
    let all : pairs_with cmp key pair.1 (link_pairs c.args.link.now) ≡ link_pairs n.left ++ link_pairs c.in_ok-right-in-Greater.right = rw (c.in-Fork.is, placed) (here.put pair.1) in
    rw all (rw c.deref-in-Greater-2.ensures at c.with_right.ensures.pairs)

pub returns-in_ok-right-in-Greater-clause-parted : goal.returns-in_ok-right-in-Greater-clause-parted
returns-in_ok-right-in-Greater-clause-parted g t c front own tree =
    let n = c.in-Fork.node.value in
    let cmp = g.K.Ord.cmp in
    let pair = c.args.entry.pair.value in
    let key = pair.0 in
    let whole = rw c.in-Fork.is at tree.ascends in
    let formed = rw c.in-Fork.is at tree.formed in
    let parted = rw c.in-Fork.is at tree.parted in
    let e : cmp key n.entry.pair.value.0 ≡ Greater = cc in
    let here = greater_parted g.met.K.Ord.total key (link_pairs n.left) (link_pairs n.right) n.entry.pair.value parted.0.0 whole e in
    let side : IsTree cmp front (Some c.deref-in-Greater.result.now.right) =
    subst (λ (node : Node g.row.K.Denot g.row.V.Denot). IsTree cmp front (Some node.right)) (sym c.deref-in-Greater.ensures) (record { ascends = here.ascends; formed = formed.3; parted = parted.2 }) in
    let placed : link_pairs c.in_ok-right-in-Greater.right ≡ pairs_with cmp key pair.1 (link_pairs n.right) = rw c.deref-in-Greater.ensures at (c.in_ok-right-in-Greater.ensures.pairs front side) in
    let parting : IsParting front n.entry (link_pairs c.in_ok-right-in-Greater.right) = (ap first_pair placed ∙ here.kept pair.1, parted.0.1) in
    c.with_right.ensures.parted front
    (subst (λ (node : Node g.row.K.Denot g.row.V.Denot). IsParting front node.entry (link_pairs c.in_ok-right-in-Greater.right)) (sym c.deref-in-Greater-2.ensures) parting)
    (subst (λ (node : Node g.row.K.Denot g.row.V.Denot). IsParted front node.left) (sym c.deref-in-Greater-2.ensures) parted.1)
    (c.in_ok-right-in-Greater.ensures.parted front own side)

-- the run is
pub returns-in-Run-clause-parted : goal.returns-in-Run-clause-parted
returns-in-Run-clause-parted g t c front own tree =
    let run = rw c.in-Run.is at tree.parted in
    c.with_in_run.ensures.parted front own (rw (c.deref-in-Run.ensures.value, c.deref.ensures) run.1)
