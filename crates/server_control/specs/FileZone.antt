-- What the zone of a zone file makes of the zone that is served (RFC 2136; own).
use Rattle.std.specs.Prelude.{List}
use Rattle.dns_rdata.specs.Record.{Record}
use Rattle.update_messages.specs.Prepared.{IsPrepared, IsPreparedFrom}
use Rattle.update_messages.specs.declared.prepared.Prepared.TheVariants as prepared
use Rattle.server_control.specs.declared.reload_slot.FileZone.{FileZone}
use Rattle.server_control.specs.declared.reload_slot.FileZone.TheVariants.{Unchanged, Changed}

-- nothing, where a change to it leads nowhere else; or the update that takes the one to the other, as it is submitted
abbrev pub IsFileZone : List Record → List Record → FileZone → Type 0
IsFileZone served next (Unchanged serial) = IsPreparedFrom served next (prepared.Unchanged serial)
IsFileZone served next (Changed change) =
    IsPrepared served next (record { update = change.request.update; messages = change.request.messages; summary = change.summary })
