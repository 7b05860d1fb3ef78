use Rattle.std.proofs.Common.{List, get_or, ap, ◌∙◌}
use Rattle.wire_names.specs.declared.table.Head.{Head}
use Rattle.wire_names.proofs.LongLemmas.{head_at}
use Rattle.wire_names.proofs.table.Positions.head.Goals as goal

pub returns : goal.returns
returns c = λ d. ap (λ (xs : List Head). get_or xs c.args.i _) c.deref.ensures.0 ∙ head_at _ c.self.inside.longs _ c.args.i d _ c.self.view_is c.requires
