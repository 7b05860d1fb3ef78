use Rattle.std.proofs.Common.{◌∙◌}
use Rattle.wire_names.proofs.LongLemmas.{octets_at}
use Rattle.wire_names.proofs.table.Positions.long.Goals as goal

pub returns-then-index-len : goal.returns-then-index-len
returns-then-index-len c = λ within d. c.octets.ensures ∙ octets_at c.self.inside.heads.items c.self.inside.longs _ c.args.index d c.self.view_is within
