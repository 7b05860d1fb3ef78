use Rattle.std.proofs.Common.{◌≡◌, ◌-◌}
use Rattle.std.specs.Option.{is_some}
use Rattle.dns_rdata.specs.Data.{parts}
use Rattle.dns_rdata.proofs.FormLemmas.{is_present}
use Rattle.dns_rdata.proofs.form.has_parts.Given as goal

abbrev pub invariant-loop : goal.invariant-loop
invariant-loop l = is_present (l.names - l.counter) l.back l.rest ≡ is_some (parts l.front l.names l.back l.octets)
