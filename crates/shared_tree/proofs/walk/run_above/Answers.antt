use Rattle.std.proofs.Common.{◌∙◌, ◌+◌, sym, ap}
use Rattle.shared_tree.specs.Links.{run_pairs}
use Rattle.shared_tree.proofs.RunLemmas.{run_drop, place_above, above_between}
use Rattle.shared_tree.proofs.walk.run_above.Goals as goal

-- those behind the key's pair
pub returns-in-Ok : goal.returns-in-Ok
returns-in-Ok g c =
    ap run_pairs c.split_at.ensures.back ∙ run_drop c.args.run.now (c.in-Ok.place + 1)
    ∙ sym (place_above g.met.K.Ord.total (g.Q.Seek.key c.args.sought.now) c.args.run.now c.in-Ok.place c.in-Ok.ensures.bound c.requires.ascends c.in-Ok.ensures.position)

-- those from its place on
pub returns-in-Err : goal.returns-in-Err
returns-in-Err g c =
    ap run_pairs c.split_at-in-Err.ensures.back ∙ run_drop c.args.run.now c.in-Err.place
    ∙ sym (above_between g.K.Ord.cmp (g.Q.Seek.key c.args.sought.now) (run_pairs c.args.run.now) c.in-Err.place c.in-Err.ensures.position)
