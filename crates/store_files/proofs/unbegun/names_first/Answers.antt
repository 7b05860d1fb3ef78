use Rattle.std.proofs.Common.{ℕ, subst}
use Rattle.std.proofs.lemmas.Bool.{eqb-true, eq-eqb}
use Rattle.store_files.specs.Names.{Names}
use Rattle.store_files.proofs.NamedLemmas.{one_named, none_named}
use Rattle.store_files.proofs.unbegun.names_first.Goals as goal

pub returns-in-None : goal.returns-in-None
returns-in-None c = (
  λ no. absurd (cc no),
  λ named. absurd (none_named c.args.octets.now 0 c.in-None.ensures.0 c.in-None.ensures.1 named),
)

pub returns-in-Some : goal.returns-in-Some
returns-in-Some c = (
  λ is. subst (λ (n : ℕ). Names c.args.octets.now n) (eqb-true c.in-Some.number 0 is) c.in-Some.ensures,
  λ named. eq-eqb c.in-Some.number 0 (one_named c.args.octets.now c.in-Some.number 0 c.in-Some.ensures named),
)
