use Rattle.std.proofs.Common.{◌≡◌, false, take}
use Rattle.std.specs.List.{list_any}
use Rattle.dns_rdata.specs.Record.{owner_of, rtype_of}
use Rattle.dns_rdata.specs.Shown.{records_shown}
use Rattle.zone_tree.specs.Zone.{is_of}
use Rattle.lookup_core.proofs.additional.is_answered.Given as goal

-- none of the entries seen so far shows records of the set's owner and type
abbrev pub invariant-loop-shown : goal.invariant-loop-shown
invariant-loop-shown l = list_any (λ shown. list_any (is_of (owner_of l.set) (rtype_of l.set)) (records_shown shown)) (take l.shown-index l.answer) ≡ false
