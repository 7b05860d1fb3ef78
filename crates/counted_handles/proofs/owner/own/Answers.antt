use Rattle.counted_handles.specs.Ruled.{version_of}
use Rattle.counted_handles.proofs.owner.own.Goals as goal

pub keep-requires-clause-has : goal.keep-requires-clause-has
keep-requires-clause-has g c =
    let has = c.requires.has in
    let held = c.hold-held.ensures.held has.0 has.1 in
    (has.0, held.0, held.1, has.2, has.3, has.4)

pub returns : goal.returns
returns g c mark is = c.keep.ensures (version_of mark) (c.hold-held.ensures.held mark is).1
