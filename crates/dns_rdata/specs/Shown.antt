-- Sets as a section of an answer shows them.
use Rattle.std.specs.Prelude.{List, map}
use Rattle.std.specs.Option.{option_map}
use Rattle.std.specs.List.{flat_map}
use Rattle.dns_rdata.specs.declared.shown.Shown.{Shown}
use Rattle.dns_rdata.specs.Record.{Record, shown_as}

-- the records of the sets, one set after another, each as it is shown
abbrev pub records_shown : Shown → List Record
records_shown shown = map (shown_as shown.owner (option_map (λ ttl. ttl.0) shown.ttl)) (flat_map (λ set. set) shown.sets.now)
