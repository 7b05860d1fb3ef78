use Rattle.std.proofs.Common.{ap, ◌∙◌}
use Rattle.std.specs.Prelude.{bytes_eq}
use Rattle.tsig.proofs.EqLemmas.{same_as}
use Rattle.tsig.proofs.digest.is_front.Goals as goal

pub returns : goal.returns
returns c = same_as _ _ _ c.is_same.ensures ∙ ap (bytes_eq c.args.mac.now) c.front_of.ensures
