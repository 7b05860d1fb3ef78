use Rattle.std.specs.Prelude.{max}
use Rattle.tsig.proofs.ListLemmas.{same_behind, len_before}
use Rattle.tsig.proofs.signing.fit.Goals as goal

pub returns-clause-behind : goal.returns-clause-behind
returns-clause-behind c = same_behind _ _ c.args.len (max c.args.len c.args.limit) c.cut.ensures.behind (len_before c.args.len c.args.limit)
