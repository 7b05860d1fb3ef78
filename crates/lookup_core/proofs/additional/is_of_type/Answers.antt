use Rattle.std.proofs.Common.{sym, ap, ◌==◌, ◌∙◌}
use Rattle.lookup_core.proofs.AdditionalLemmas.{any_of_type}
use Rattle.lookup_core.proofs.additional.is_of_type.Goals as goal

pub returns : goal.returns
returns c =
    let any = any_of_type c.args.set.now _ _ _ c.args.rtype.0 c.data.result.now c.data.ensures.records c.data.ensures.lawful.some in
    c.eq.ensures ∙ ap (λ t. t == c.args.rtype.0) c.rtype.ensures.of ∙ sym any
