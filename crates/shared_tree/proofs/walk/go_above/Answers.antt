use Rattle.std.proofs.Common.{◌≡◌, ◌+◌, ◌<◌, ◌≤◌, ◌++◌, ◌∷◌, [], Some, length, max, true, false, sym, ap, ◌∙◌, subst, arith, length-append, append_assoc}
use Rattle.std.specs.Ordering.{is_lt}
use Rattle.shared_tree.specs.Links.{link_pairs, link_height, IsFormed, IsParted, AreOnWay, pairs_on_way}
use Rattle.shared_tree.specs.Fronts.{front_at}
use Rattle.shared_tree.specs.Pairs.{IsAscending, pairs_above}
use Rattle.shared_tree.specs.declared.node.Node.{Node}
use Rattle.shared_tree.proofs.PartLemmas.{behind_ascends, left_parted, above_parted_less, above_parted_other}
use Rattle.shared_tree.proofs.WayLemmas.{way_put, pairs_put}
use Rattle.shared_tree.proofs.walk.go_above.Goals as goal

-- the right side is put on the way, and its left side is what is below
pub loop-below-preserved-then-is_above : goal.loop-below-preserved-then-is_above
loop-below-preserved-then-is_above g c =
    let n = c.in-Fork.node.value in
    let cmp = g.K.Ord.cmp in
    let key = g.Q.Seek.key c.args.sought.now in
    let way = c.loop-below.way.items in
    let formed = rw c.in-Fork.is at c.loop-below.invariant.formed in
    let room : length way + (max (link_height n.left) (link_height n.right) + 1) ≤ 64 = rw c.in-Fork.is at c.loop-below.invariant.room in
    let whole = rw c.in-Fork.is at c.loop-below.invariant.ascends in
    let same = rw c.in-Fork.is at c.loop-below.invariant.same in
    let parted = rw c.in-Fork.is at c.loop-below.invariant.parted in
    let less : is_lt (cmp key n.entry.pair.value.0) ≡ true = cc in
    let above = above_parted_less g.met.K.Ord.total key (link_pairs n.left) (link_pairs n.right) n.entry.pair.value parted.0.0 whole less in
    let right = subst (λ (node : Node g.row.K.Denot g.row.V.Denot). IsFormed node.right) (sym c.deref-then-is_above.ensures) formed.3 in
    let free : 0 + length way + link_height n.right < 64 = omega arith in
    let low = subst (λ (node : Node g.row.K.Denot g.row.V.Denot). 0 + length way + link_height node.right < 64) (sym c.deref-then-is_above.ensures) free in
    let put = c.push.ensures.items in
    let len = ap length put ∙ length-append way (Some c.deref-then-is_above.result ∷ []) in
    let pairs = ap pairs_on_way put ∙ pairs_put way c.deref-then-is_above.result in
    let here : pairs_on_way c.push.new.self.items ≡ link_pairs n.right ++ pairs_on_way way = rw c.deref-then-is_above.ensures at pairs in
    let lefts = c.deref-then-is_above-2.ensures in
    record {
      on_way = subst (AreOnWay 0) (sym put) (way_put 0 way c.deref-then-is_above.result c.loop-below.invariant.on_way right low);
      formed = subst (λ (node : Node g.row.K.Denot g.row.V.Denot). IsFormed node.left) (sym lefts) formed.2;
      room = subst (λ (node : Node g.row.K.Denot g.row.V.Denot). length c.push.new.self.items + link_height node.left ≤ 64) (sym lefts) (omega arith);
      parted = subst (λ (node : Node g.row.K.Denot g.row.V.Denot). IsParted (front_at g.K.Front.front c.args.base.now) node.left) (sym lefts) parted.1;
      ascends = subst (λ (node : Node g.row.K.Denot g.row.V.Denot). IsAscending cmp (link_pairs node.left)) (sym lefts) (left_parted g.met.K.Ord.total key (link_pairs n.left) (link_pairs n.right) n.entry.pair.value parted.0.0 whole);
      same = rw (lefts, here) (sym (append_assoc (pairs_above cmp key (link_pairs n.left)) (link_pairs n.right) (pairs_on_way way)) ∙ ap (λ l. l ++ pairs_on_way way) (sym above) ∙ same);
    }

-- what is on the left is passed, and the right side is what is below
pub loop-below-preserved : goal.loop-below-preserved
loop-below-preserved g c =
    let n = c.in-Fork.node.value in
    let cmp = g.K.Ord.cmp in
    let key = g.Q.Seek.key c.args.sought.now in
    let way = c.loop-below.way.items in
    let formed = rw c.in-Fork.is at c.loop-below.invariant.formed in
    let room : length way + (max (link_height n.left) (link_height n.right) + 1) ≤ 64 = rw c.in-Fork.is at c.loop-below.invariant.room in
    let whole = rw c.in-Fork.is at c.loop-below.invariant.ascends in
    let same = rw c.in-Fork.is at c.loop-below.invariant.same in
    let parted = rw c.in-Fork.is at c.loop-below.invariant.parted in
    let other : is_lt (cmp key n.entry.pair.value.0) ≡ false = cc in
    let above = above_parted_other g.met.K.Ord.total key (link_pairs n.left) (link_pairs n.right) n.entry.pair.value parted.0.0 whole other in
    let rights = c.deref-else-is_above.ensures in
    record {
      on_way = c.loop-below.invariant.on_way;
      formed = subst (λ (node : Node g.row.K.Denot g.row.V.Denot). IsFormed node.right) (sym rights) formed.3;
      room = subst (λ (node : Node g.row.K.Denot g.row.V.Denot). length way + link_height node.right ≤ 64) (sym rights) (omega arith);
      parted = subst (λ (node : Node g.row.K.Denot g.row.V.Denot). IsParted (front_at g.K.Front.front c.args.base.now) node.right) (sym rights) parted.2;
      ascends = subst (λ (node : Node g.row.K.Denot g.row.V.Denot). IsAscending cmp (link_pairs node.right)) (sym rights) (behind_ascends cmp (link_pairs n.left) (link_pairs n.right) whole);
      same = rw rights (ap (λ l. l ++ pairs_on_way way) (sym above) ∙ same);
    }
