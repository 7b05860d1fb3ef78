use Rattle.std.proofs.Common.{sym, ap, subst, inl}
use Rattle.update_core.specs.declared.outcome.Outcome.{Outcome}
use Rattle.dns_engine.specs.declared.judged.Judged.TheVariants.{Made}
use Rattle.dns_engine.specs.Outcomes.{IsJudgedAs}
use Rattle.dns_engine.proofs.judged.judged_of.Goals as goal

pub returns-in-Some : goal.returns-in-Some
returns-in-Some c = subst (λ (o : Outcome). IsJudgedAs o (Made c.in-Some.shared)) (sym c.in-Next.is) (inl (ap Made c.in-Some.ensures))
