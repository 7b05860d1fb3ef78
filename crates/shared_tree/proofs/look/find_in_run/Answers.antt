use Rattle.std.proofs.Common.{◌∙◌, sym}
use Rattle.shared_tree.specs.Links.{run_pairs}
use Rattle.shared_tree.proofs.RunLemmas.{place_found, none_between}
use Rattle.shared_tree.proofs.look.find_in_run.Goals as goal

-- the key's pair is at its place
pub returns-in-Ok : goal.returns-in-Ok
returns-in-Ok g c =
    c.pair_at_place.ensures
    ∙ sym (place_found g.met.K.Ord.total (g.Q.Seek.key c.args.sought.now) c.args.run.now c.in-Ok.place c.in-Ok.ensures.bound c.requires.ascends c.in-Ok.ensures.position)

-- it has none
pub returns-in-Err : goal.returns-in-Err
returns-in-Err g c = sym (none_between g.K.Ord.cmp (g.Q.Seek.key c.args.sought.now) (run_pairs c.args.run.now) c.in-Err.field-0 c.in-Err.ensures.position)
