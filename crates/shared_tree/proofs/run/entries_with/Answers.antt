use Rattle.std.proofs.Common.{◌≡◌, ◌∙◌, ◌∷◌, [], ap, length, arith, append_assoc}
use Rattle.shared_tree.specs.Pairs.{pairs_below, pairs_above, pairs_with}
use Rattle.shared_tree.specs.Links.{run_pairs}
use Rattle.shared_tree.proofs.LinkLemmas.{run_length}
use Rattle.shared_tree.proofs.RunLemmas.{with_length, with_some}
use Rattle.shared_tree.proofs.run.entries_with.Goals as goal

-- the pairs of lesser keys, the pair, and those of greater keys
pub returns-clause-pairs : goal.returns-clause-pairs
returns-clause-pairs g c =
    let pair = c.args.entry.pair.value in
    let run = run_pairs c.args.run.now in
    c.in_ok-push_above.ensures.pairs ∙ rw (c.in_ok-push_entry.ensures.pairs, c.in_ok-entries.ensures.pairs, c.deref.ensures, c.deref-2.ensures, c.in_ok-own.ensures.pair) (append_assoc (pairs_below g.K.Ord.cmp pair.0 run) (pair ∷ []) (pairs_above g.K.Ord.cmp pair.0 run))

-- each number comes with its key
pub returns-clause-fronted : goal.returns-clause-fronted
returns-clause-fronted g c front own run =
    c.in_ok-push_above.ensures.fronted front run (c.in_ok-push_entry.ensures.fronted front (c.in_ok-entries.ensures.fronted front run) own)

-- the pair itself has come
pub returns-clause-some : goal.returns-clause-some
returns-clause-some g c =
    let items = c.push_above.new.entries.items in
    let pair = c.args.entry.pair.value in
    let all : run_pairs items ≡ pairs_with g.K.Ord.cmp pair.0 pair.1 (run_pairs c.args.run.now) = returns-clause-pairs g c in
    omega (arith, run_length items, ap length all, with_some g.K.Ord.cmp pair.0 pair.1 (run_pairs c.args.run.now))

-- and none but it that was not there
pub returns-clause-length : goal.returns-clause-length
returns-clause-length g c =
    let items = c.push_above.new.entries.items in
    let pair = c.args.entry.pair.value in
    let all : run_pairs items ≡ pairs_with g.K.Ord.cmp pair.0 pair.1 (run_pairs c.args.run.now) = returns-clause-pairs g c in
    omega (arith, run_length items, run_length c.args.run.now, ap length all, with_length g.K.Ord.cmp pair.0 pair.1 (run_pairs c.args.run.now))
