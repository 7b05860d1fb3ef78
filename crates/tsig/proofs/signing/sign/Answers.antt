use Rattle.std.proofs.Common.{arith, ◌+◌, ◌∙◌}
use Rattle.std.specs.Prelude.{max}
use Rattle.tsig.proofs.ListLemmas.{same_behind, limit_before}
use Rattle.tsig.proofs.signing.sign.Goals as goal
use Rattle.tsig.specs.Signing.{tsig_size}

pub returns-clause-behind : goal.returns-clause-behind
returns-clause-behind c =
    same_behind _ _ (c.fit-len.result + tsig_size c.args.key.now c.args.stamp.now) (max c.args.len c.args.limit) c.append_tsig.ensures.behind
    (limit_before _ _ c.args.len c.args.limit (tsig_size c.args.key.now c.args.stamp.now) c.tsig_size-size.ensures.size c.fit-len.ensures.room)
    ∙ c.fit-len.ensures.behind
