use Rattle.std.proofs.Common.{◌≡◌, [], length, map}
use Rattle.wide_text.specs.Params.{keyed_seen, params_among}
use Rattle.zone_lexing.specs.Word.{written}
use Rattle.wide_text.proofs.params.params_in.Given as goal

abbrev pub invariant-loop-rest : goal.invariant-loop-rest
invariant-loop-rest l = params_among (map keyed_seen l.params.items) (map written l.rest) ≡ params_among [] (map written l.words)

abbrev pub decreases-loop-rest : goal.decreases-loop-rest
decreases-loop-rest l = length l.rest
