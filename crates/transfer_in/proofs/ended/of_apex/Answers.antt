use Rattle.std.proofs.Common.{refl, sym, ap, ◌∙◌}
use Rattle.dns_name.specs.Name.{Name, is_same}
use Rattle.transfer_in.proofs.EndLemmas.{passes_at, fails_at}
use Rattle.transfer_in.proofs.ended.of_apex.Goals as goal

pub returns-then-eq-clause-passes : goal.returns-then-eq-clause-passes
returns-then-eq-clause-passes c = passes_at c.args.zone c.requires.lawful c.args.apex.now c.requires.folded (ap (λ (name : Name). is_same name c.args.apex.now) (sym c.apex.ensures) ∙ sym c.eq.ensures ∙ c.if-eq.true)

pub returns-clause-fault : goal.returns-clause-fault
returns-clause-fault c = (refl, fails_at c.args.zone c.requires.lawful c.args.apex.now (ap (λ (name : Name). is_same name c.args.apex.now) (sym c.apex.ensures) ∙ sym c.eq.ensures ∙ c.if-eq.false))
