use Rattle.wire_names.proofs.CutLemmas.{IsCut-whole}
use Rattle.wire_names.proofs.write.NameWriter.cut.Goals as goal

pub returns-else-compress-clause-cut : goal.returns-else-compress-clause-cut
returns-else-compress-clause-cut c = IsCut-whole _ _ _ _ c.requires.whole c.if-compress.false
