use Rattle.std.proofs.Common.{◌≡◌, drop}
use Rattle.wide_text.specs.Params.{after, list_from, list_of}
use Rattle.wide_text.proofs.params.list_of.Given as goal

abbrev pub invariant-loop-octet : goal.invariant-loop-octet
invariant-loop-octet l = after l.list.items (list_from l.kind l.escaped l.own.items (drop l.octet-index l.octets)) ≡ list_of l.kind l.octets
