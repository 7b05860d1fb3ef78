-- Versions of a zone: the first, and what a further one changed of the one before it (own; RFC 1995, 4).
use Rattle.std.specs.Prelude.{List, None}
use Rattle.dns_rdata.specs.Record.{Record}
use Rattle.zone_tree.specs.Change.{left_out}
use Rattle.zone_tree.specs.Version.{Version, Changes}
use Rattle.zone_tree.specs.Zone.{soa_of}

-- the first version (own)
abbrev pub first_version : List Record → Version
first_version zone = record { number = 0; zone = zone; changes = None }

-- what a zone changed of the one before it (RFC 1995, 4)
abbrev pub changes_between : List Record → List Record → Changes
changes_between before after = record { old_soa = soa_of before; deletions = left_out before after; additions = left_out after before }
