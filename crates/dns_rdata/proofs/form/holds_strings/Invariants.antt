use Rattle.std.proofs.Common.{◌≡◌, drop}
use Rattle.dns_rdata.proofs.StringLemmas.{strings_behind}
use Rattle.dns_rdata.proofs.form.holds_strings.Given as goal

abbrev pub invariant-loop-octet : goal.invariant-loop-octet
invariant-loop-octet l = strings_behind l.left (drop l.octet-index l.octets) ≡ strings_behind 0 l.octets
