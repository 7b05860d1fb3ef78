use Rattle.std.proofs.Common.{◌∙◌, sym}
use Rattle.shared_tree.specs.Links.{run_pairs}
use Rattle.shared_tree.proofs.RunLemmas.{got, place_found, none_between, before_between, after_between}
use Rattle.shared_tree.proofs.look.around_in_run.Goals as goal

-- the key's pair is at its place
pub returns-in-Ok-clause-at : goal.returns-in-Ok-clause-at
returns-in-Ok-clause-at g c =
    got c.args.run.now c.in-Ok.place c.index-run-place.result c.in-Ok.ensures.bound c.index-run-place.is c.deref.result.now (cc)
    ∙ sym (place_found g.met.K.Ord.total (g.Q.Seek.key c.args.sought.now) c.args.run.now c.in-Ok.place c.in-Ok.ensures.bound c.requires.ascends c.in-Ok.ensures.position)

-- it has none, and those next to it are on both sides of its place
pub returns-in-Err-clause-at : goal.returns-in-Err-clause-at
returns-in-Err-clause-at g c = sym (none_between g.K.Ord.cmp (g.Q.Seek.key c.args.sought.now) (run_pairs c.args.run.now) c.in-Err.place c.in-Err.ensures.position)

pub returns-in-Err-clause-before : goal.returns-in-Err-clause-before
returns-in-Err-clause-before g c none =
    c.pair_in_front.ensures c.in-Err.ensures.bound ∙ sym (before_between g.K.Ord.cmp (g.Q.Seek.key c.args.sought.now) (run_pairs c.args.run.now) c.in-Err.place c.in-Err.ensures.position)

pub returns-in-Err-clause-behind : goal.returns-in-Err-clause-behind
returns-in-Err-clause-behind g c none = rw (after_between g.K.Ord.cmp (g.Q.Seek.key c.args.sought.now) (run_pairs c.args.run.now) c.in-Err.place c.in-Err.ensures.position) c.pair_or.ensures
