use Rattle.std.proofs.Common.{◌≡◌, [], ◌∷◌, length, map}
use Rattle.wide_text.specs.Params.{keyed_seen, keys_among}
use Rattle.wide_text.proofs.params.keys_in.Given as goal

abbrev pub invariant-loop-rest : goal.invariant-loop-rest
invariant-loop-rest l = keys_among (map keyed_seen l.keys.items) l.rest ≡ keys_among (record { key = 0; octets = [] } ∷ []) l.octets

abbrev pub decreases-loop-rest : goal.decreases-loop-rest
decreases-loop-rest l = length l.rest
