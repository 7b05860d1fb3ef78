use Rattle.std.proofs.Common.{◌∙◌, ◌∷◌, [], refl, arith, length-append}
use Rattle.shared_tree.proofs.node.Maker.last_entries.Goals as goal

-- one more has come
pub loop-pair-preserved : goal.loop-pair-preserved
loop-pair-preserved g c = record {
  pairs = c.in_ok-push_entry.ensures.pairs ∙ rw (c.loop-pair.invariant.pairs, c.in_ok-entry.ensures.pair) refl;
  length = omega (arith, length-append c.loop-pair.yielded (c.in-Some.pair ∷ []), c.loop-pair.invariant.length, c.in_ok-push_entry.ensures.length);
  fronted = c.in_ok-push_entry.ensures.fronted _ c.loop-pair.invariant.fronted c.in_ok-entry.ensures.front;
}
