use Rattle.std.proofs.Common.{ap, ◌∙◌, take, drop, length, ◌+◌}
use Rattle.tsig.proofs.ListLemmas.{front_put, behind_put}
use Rattle.tsig.proofs.octets.put_at.Goals as goal

pub returns-clause-front : goal.returns-clause-front
returns-clause-front c = ap (take (c.args.at + length c.args.octets.now)) c.overwrite.ensures ∙ front_put _ _ _ c.requires

pub returns-clause-behind : goal.returns-clause-behind
returns-clause-behind c = ap (drop (c.args.at + length c.args.octets.now)) c.overwrite.ensures ∙ behind_put _ _ _ c.requires
