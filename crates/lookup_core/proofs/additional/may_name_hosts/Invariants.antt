use Rattle.std.proofs.Common.{◌≡◌, false, take}
use Rattle.std.specs.List.{list_any}
use Rattle.dns_rdata.specs.Shown.{records_shown}
use Rattle.lookup_core.specs.Additional.{has_hosts}
use Rattle.lookup_core.proofs.additional.may_name_hosts.Given as goal

-- none of the entries seen so far shows records of such a type
abbrev pub invariant-loop-shown : goal.invariant-loop-shown
invariant-loop-shown l = list_any (λ shown. list_any (λ r. has_hosts r.rtype) (records_shown shown)) (take l.shown-index l.section) ≡ false
