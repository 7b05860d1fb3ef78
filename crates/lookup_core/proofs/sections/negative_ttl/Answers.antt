use Rattle.lookup_core.proofs.SectionLemmas.{lesser_of_only}
use Rattle.lookup_core.proofs.sections.negative_ttl.Goals as goal

pub returns : goal.returns
returns c =
    lesser_of_only c.args.soa.now _ _ _ c.data.result.now c.index-data-0.result _ c.data.ensures.records c.requires.one c.index-data-0.is
    (cc (rw c.unwrap-numbers.ensures at c.soa.ensures.minimum))
