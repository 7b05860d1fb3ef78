-- What a requested update does in a version (RFC 2136, 3).
use Rattle.std.specs.Prelude.{◌≡◌, ℕ, None}
use Rattle.dns_rdata.specs.declared.numbers.Rcode.{Rcode}
use Rattle.zone_tree.specs.Version.{Version, zone_serial}
use Rattle.update_core.specs.Verdict.{verdict}
use Rattle.dns_engine.specs.Versions.{Makes}
use Rattle.dns_engine.specs.Outcomes.{Tells}
use Rattle.journal.specs.Batch.{Messages}
use Rattle.update_batches.specs.declared.update_request.UpdateRequest.{UpdateRequest}

-- no rule gives it a code
abbrev pub passes : Version → UpdateRequest → Type 0
passes version asked = verdict version.zone asked.update asked.may ≡ None

-- it gets this code, and makes no version
abbrev pub tells : Version → UpdateRequest → Rcode → Type 0
tells version asked code = Tells version asked.update asked.may code

-- it makes this version
abbrev pub makes : Version → UpdateRequest → Version → Type 0
makes version asked next = Makes asked.update version next

-- the serial of a version's zone (RFC 1035, 3.3.13)
abbrev pub serial_in : Version → ℕ
serial_in version = zone_serial version.zone

-- its messages
abbrev pub messages_of : UpdateRequest → Messages
messages_of asked = asked.messages
