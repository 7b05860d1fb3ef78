use Rattle.std.proofs.Common.{◌≡◌, ◌++◌, drop, map}
use Rattle.wide_text.specs.Params.{all_octets, keyed_seen}
use Rattle.wide_text.proofs.keyed.put_all.Given as goal

abbrev pub invariant-loop-own : goal.invariant-loop-own
invariant-loop-own l = l.octets.items ++ all_octets (map keyed_seen (drop l.own-index l.all)) ≡ l.initial.octets.items ++ all_octets (map keyed_seen l.all)
