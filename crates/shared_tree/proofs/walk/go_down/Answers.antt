use Rattle.std.proofs.Common.{◌≡◌, ◌+◌, ◌<◌, ◌≤◌, ◌++◌, ◌∷◌, [], Some, length, max, sym, ap, ◌∙◌, subst, arith, length-append, append_assoc}
use Rattle.shared_tree.specs.Links.{link_pairs, link_height, IsFormed, AreOnWay, pairs_on_way}
use Rattle.shared_tree.specs.declared.node.Node.{Node}
use Rattle.shared_tree.proofs.WayLemmas.{way_put, pairs_put}
use Rattle.shared_tree.proofs.walk.go_down.Goals as goal

-- the right side is put on the way, and its left side is what is below
pub loop-below-preserved : goal.loop-below-preserved
loop-below-preserved g c =
    let n = c.in-Fork.node.value in
    let way = c.loop-below.way.items in
    let formed = rw c.in-Fork.is at c.loop-below.invariant.formed in
    let room : length way + (max (link_height n.left) (link_height n.right) + 1) ≤ 64 = rw c.in-Fork.is at c.loop-below.invariant.room in
    let same = rw c.in-Fork.is at c.loop-below.invariant.same in
    let right = subst (λ (node : Node g.row.K.Denot g.row.V.Denot). IsFormed node.right) (sym c.deref-in-Fork.ensures) formed.3 in
    let less : 0 + length way + link_height n.right < 64 = omega arith in
    let low = subst (λ (node : Node g.row.K.Denot g.row.V.Denot). 0 + length way + link_height node.right < 64) (sym c.deref-in-Fork.ensures) less in
    let put = c.push.ensures.items in
    let len = ap length put ∙ length-append way (Some c.deref-in-Fork.result ∷ []) in
    let pairs = ap pairs_on_way put ∙ pairs_put way c.deref-in-Fork.result in
    let here : pairs_on_way c.push.new.self.items ≡ link_pairs n.right ++ pairs_on_way way = rw c.deref-in-Fork.ensures at pairs in
    let lefts = c.deref-in-Fork-2.ensures in
    record {
      on_way = subst (AreOnWay 0) (sym put) (way_put 0 way c.deref-in-Fork.result c.loop-below.invariant.on_way right low);
      formed = subst (λ (node : Node g.row.K.Denot g.row.V.Denot). IsFormed node.left) (sym lefts) formed.2;
      room = subst (λ (node : Node g.row.K.Denot g.row.V.Denot). length c.push.new.self.items + link_height node.left ≤ 64) (sym lefts) (omega arith);
      same = rw (lefts, here) (sym (append_assoc (link_pairs n.left) (link_pairs n.right) (pairs_on_way way)) ∙ same);
    }
