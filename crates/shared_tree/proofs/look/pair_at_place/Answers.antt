use Rattle.std.proofs.Common.{arith}
use Rattle.shared_tree.proofs.RunLemmas.{got, not_got}
use Rattle.shared_tree.proofs.look.pair_at_place.Goals as goal

-- the run has not so many
pub returns-then-place-run : goal.returns-then-place-run
returns-then-place-run g c = not_got c.args.run.now c.args.place (omega arith)

-- the entry there has the pair
pub returns : goal.returns
returns g c = got c.args.run.now c.args.place c.index-run-place.result (omega arith) c.index-run-place.is c.deref.result.now (cc)
