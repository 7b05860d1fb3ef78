use Rattle.counted_handles.specs.Ruled.{version_of}
use Rattle.counted_handles.proofs.HeldLemmas.{its_value}
use Rattle.counted_handles.proofs.owner.Strong.version.Goals as goal

pub claimed-requires : goal.claimed-requires
claimed-requires g c =
    let inv = c.self.invariant in
    (version_of inv.mark, its_value inv.mark c.self.inside.held inv.held_is c.in-Some.held c.in-Some.is)
