-- The outcome of an update in a version of the zone (RFC 2136, 3).
use Rattle.std.specs.Prelude.{ℕ, ◌+◌, ◌^◌, Bool, true, ◌&&◌, ◌==◌, nat_lt, List, bytes_eq, Option, None, Some, if◌then◌else◌}
use Rattle.std.specs.Cmp.Lexicographic.{pointwise}
use Rattle.dns_rdata.specs.declared.numbers.Rcode.{Rcode}
use Rattle.dns_rdata.specs.declared.numbers.Rcode.TheVariants.{NoError}
use Rattle.dns_rdata.specs.Record.{Record}
use Rattle.serve_core.specs.declared.heading.Heading.{Heading}
use Rattle.serve_core.specs.Heading.{header_alone, heading_of_update, heading_of_bad}
use Rattle.dns_message.specs.declared.query.Parsed.{Parsed}
use Rattle.dns_message.specs.declared.query.Parsed.TheVariants.{Silent, Fault, BadOpt, Query, Update, NoMemory}
use Rattle.dns_message.specs.declared.update.Update.{Update as DynamicUpdate}
use Rattle.dns_message.specs.Message.{opcode_UPDATE}
use Rattle.dns_message.specs.Request.{reads}
use Rattle.update_core.specs.Act.{act}
use Rattle.update_core.specs.Applied.{code_of}
pub use Rattle.serve_core.specs.Served.{asks_update}
use Rattle.world_run.specs.declared.judged.Judged.{Judged}
use Rattle.world_run.specs.declared.judged.Judged.TheVariants.{Code, Makes}
use Rattle.zone_tree.specs.Version.{Version as Numbered}
use Rattle.world_run.specs.Numbered.{changes_between}

-- whether two records are the same, octet by octet (own)
abbrev pub is_equal_record : Record → Record → Bool
is_equal_record r s = pointwise bytes_eq r.owner s.owner && r.rtype == s.rtype && r.ttl == s.ttl && bytes_eq r.rdata s.rdata

-- whether two zones have the same records (own)
abbrev pub is_equal_zone : List Record → List Record → Bool
is_equal_zone zone other = pointwise is_equal_record zone other

-- the outcome of an update that no rule refuses, by the zone that it makes: it changes nothing, or it makes the version of the next
-- number, which has the changes made (RFC 2136, 3.6; RFC 1995, 4)
abbrev pub made_of : Numbered → Heading → Option (List Record) → Option Judged
made_of last heading None = None
made_of last heading (Some zone) =
    if is_equal_zone last.zone zone then Some (Code heading NoError)
    else Some (Makes heading (record { number = last.number + 1; zone = zone; changes = Some (changes_between last.zone zone) }))

-- the outcome of an update from a peer that may update, by the code that it gets where a rule or a limit refuses it (RFC 2136, 3)
abbrev pub judged_by : Numbered → DynamicUpdate → Option Rcode → Option Judged
judged_by last update (Some code) = Some (Code (heading_of_update update) code)
judged_by last update None = made_of last (heading_of_update update) (act last.zone update)

-- the outcome of a request that was read, where it is an update; else none (RFC 2136, 3)
abbrev pub judged_said : Numbered → Parsed → Option Judged
judged_said last Silent = None
judged_said last (Fault head code) = if head.opcode == opcode_UPDATE then Some (Code (header_alone head) code) else None
judged_said last (BadOpt head question code dnssec_ok) = if head.opcode == opcode_UPDATE then Some (Code (heading_of_bad head question dnssec_ok) code) else None
judged_said last (Query query) = None
judged_said last (Update update) = judged_by last update (code_of last.zone update true)
judged_said last (NoMemory head) = None

-- the outcome of a request in the last version; none where it is no update, or the version's number would pass 64 bits (RFC 2136, 3; own)
abbrev pub judged : Numbered → List ℕ → Option Judged
judged last request = if nat_lt (last.number + 1) (2 ^ 64) then judged_said last (reads request) else None
