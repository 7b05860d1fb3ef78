use Rattle.std.proofs.Common.{◌≡◌, ◌+◌, length, drop}
use Rattle.std.specs.List.{flat_map}
use Rattle.dns_rdata.specs.Shown.{records_shown}
use Rattle.dns_message.proofs.count.count_section.Given as goal

abbrev pub invariant-loop-shown : goal.invariant-loop-shown
invariant-loop-shown l =
    l.count + length (flat_map records_shown (drop l.shown-index l.section)) ≡ length (flat_map records_shown l.section)
