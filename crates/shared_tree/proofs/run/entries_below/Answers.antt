use Rattle.std.proofs.Common.{◌≡◌, ◌∙◌, ◌<◌, length, take, true, false, arith, refl}
use Rattle.std.specs.Ordering.{is_gt}
use Rattle.shared_tree.specs.Links.{run_pairs}
use Rattle.shared_tree.proofs.LinkLemmas.{entry_fronted}
use Rattle.shared_tree.proofs.RunLemmas.{filter_kept, filter_passed, pairs_taken, fronted_at}
use Rattle.shared_tree.proofs.run.entries_below.Goals as goal
use Rattle.shared_tree.proofs.run.entries_below.Goals.{then-is_gt+in_ok-share_entry+in_ok-push_entry, else-is_gt}

-- a pair of a lesser key comes, and no other
pub loop-entry-preserved : goal.loop-entry-preserved
loop-entry-preserved g c =
    let key = c.args.key.now in
    let run = c.args.run.now in
    let i = c.loop-entry.entry-index in
    let entry = c.entry-item.result in
    let within : i < length run = omega arith in
    let more = pairs_taken run i entry within c.entry-item.is in
    elim c.if-is_gt.branch [
      | then-is_gt+in_ok-share_entry+in_ok-push_entry w ↦
          let is : is_gt (g.K.Ord.cmp key entry.pair.value.0) ≡ true = cc in
          let kept = filter_kept (λ (x : g.row.K.Denot × g.row.V.Denot). is_gt (g.K.Ord.cmp key x.0)) (run_pairs (take i run)) entry.pair.value is in
          record {
            pairs = rw (w.below-is, more, kept) (w.in_ok-push_entry.ensures.pairs ∙ rw (c.loop-entry.invariant.pairs, w.in_ok-share_entry.ensures.pair) refl);
            fronted = λ front own. rw w.below-is (w.in_ok-push_entry.ensures.fronted front (c.loop-entry.invariant.fronted front own) (entry_fronted front w.in_ok-share_entry.field-0 entry w.in_ok-share_entry.ensures.front w.in_ok-share_entry.ensures.pair (fronted_at front run i entry within c.entry-item.is own)));
          }
      | else-is_gt w ↦
          let is : is_gt (g.K.Ord.cmp key entry.pair.value.0) ≡ false = cc in
          let passed = filter_passed (λ (x : g.row.K.Denot × g.row.V.Denot). is_gt (g.K.Ord.cmp key x.0)) (run_pairs (take i run)) entry.pair.value is in
          record {
            pairs = rw (w.below-is, more, passed) c.loop-entry.invariant.pairs;
            fronted = λ front own. rw w.below-is (c.loop-entry.invariant.fronted front own);
          }
    ]
