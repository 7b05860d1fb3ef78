-- The results of updates (RFC 2136, 3).
use Rattle.std.specs.Prelude.{◌≡◌, ◌≢◌, ◌⊎◌, ℕ, Bool, true, false, ◌==◌, List, ◌∷◌, Option, None, Some, if◌then◌else◌}
use Rattle.dns_rdata.specs.Numbers.{rcode_number}
use Rattle.dns_rdata.specs.Record.{Record}
use Rattle.dns_rdata.specs.declared.numbers.Rcode.{Rcode}
use Rattle.dns_rdata.specs.declared.numbers.Rcode.TheVariants.{NoError, ServFail}
use Rattle.dns_message.specs.Octets.{fit}
use Rattle.dns_message.specs.Request.{is_update, reads, IsWant}
use Rattle.dns_message.specs.declared.query.Head.{Head}
use Rattle.dns_message.specs.declared.query.Question.{Question}
use Rattle.dns_message.specs.declared.query.Parsed.TheVariants.{Fault, BadOpt, Update as SaysUpdate, NoMemory}
use Rattle.dns_message.specs.declared.update.Update.{Update}
use Rattle.zone_tree.specs.Version.{Version, zone_serial}
use Rattle.update_core.specs.Verdict.{verdict}
use Rattle.update_core.specs.Act.{act}
use Rattle.snapshot_cell.specs.Tokens.{ReaderState}
use Rattle.dns_engine.specs.Held.{EngineState}
use Rattle.dns_engine.specs.Chain.{IsPublished}
use Rattle.dns_engine.specs.Outcomes.{IsTold}
use Rattle.dns_engine.specs.Replayed.{IsReplay}
use Rattle.serve_core.specs.declared.peer.Peer.{Peer}
use Rattle.serve_core.specs.declared.heading.Heading.{Heading}
use Rattle.serve_core.specs.Served.{Want, ForNothing, ForReading, ForMaking}
use Rattle.serve_core.specs.Heading.{header_alone, heading_of_update, heading_of_bad, coded}
use Rattle.serve_core.specs.Transport.{limit_of}
use Rattle.zone_server.specs.Known.{HasLoaded, HasMet, IsNoOlder}
use Rattle.zone_server.specs.declared.answer.UpdateOutcome.{UpdateOutcome}
use Rattle.update_batches.specs.declared.verdict.Serials.{Serials}

-- the code that an engine gives an update, and the serials of its last version before and after the update. The version before is the first zone with updates replayed, and the
-- last of the versions that the engine had published, of which a reader had seen a prefix. After the update the reader has seen everything that the engine has published (own)
pub record IsUpdated (first : List Record) (update : Update) (may : Bool) (before after : ReaderState Version) (code : Rcode) (serials : Serials) : Type 0 where
  pub old : EngineState
  pub new : EngineState
  pub met : ReaderState Version
  pub meets : HasMet first old before met
  pub reported : IsTold old update may code new
  pub meets_again : HasMet first new met after
  pub serial_before : serials.before.0 ≡ zone_serial old.held.last.zone
  pub serial_after : serials.after.0 ≡ zone_serial new.held.last.zone

-- what an update makes of a version, if that changes the zone, is the zone of the next version known to be published (RFC 2136, 3)
abbrev pub IsMadeBehind : List Version → Version → Update → Bool → Type 0
IsMadeBehind newer version update may =
    (zone : List Record) → verdict version.zone update may ≡ None → act version.zone update ≡ Some zone → zone ≢ version.zone
    → (next : Version) × (more : List Version) × (newer ≡ next ∷ more) × (next.zone ≡ zone)

-- an update is judged in a version known to be published when the reply is made, and not older than the last one known before. What it makes of that version is known to be
-- published after it, unless memory is short for making it. If memory is short for reading the update, it is judged in no version (RFC 2136, 3; own)
abbrev pub TellsOf : List Record → Bool → List Version → List Version → Version → Want → Update → Type 0
TellsOf first may known later version ForNothing update = IsNoOlder known version × (here : IsPublished first later version) × IsMadeBehind here.newer version update may
TellsOf first may known later version ForReading update = Unit {0}
TellsOf first may known later version ForMaking update = IsNoOlder known version × IsPublished first later version

-- the serials given with a code: none if it is not NOERROR (own)
abbrev pub told_with : Rcode → Serials → Option Serials
told_with code serials = if rcode_number code == rcode_number NoError then Some serials else None

-- the result of an update that was read, by whether its peer may update, and by how the reader changes. If the peer may update, or no load is left, it is the code that an
-- engine gives, if that is NOERROR with the serials of that engine's last version before and after it, and everything that the engine has then published is seen. Otherwise it
-- is the code of the first rule that it breaks in the version loaded for it, which is the first zone with updates replayed, and no serials
pub data IsJudged (first : List Record) (update : Update) (may : Bool) (before after : ReaderState Version) (reported : UpdateOutcome) : Type 0 where
  by_engine : (serials : Serials) → (may ≡ true) ⊎ (before.left ≡ 0) → reported.serials ≡ told_with reported.code serials → IsUpdated first update may before after reported.code serials → IsJudged first update may before after reported
  in_version : (version : Version) → may ≡ false → IsReplay first version → HasLoaded first before after version → verdict version.zone update false ≡ Some reported.code → reported.serials ≡ None → IsJudged first update may before after reported

-- the result of a request that asks for an update, and what its reply repeats of it: of one that is read, the result of that update; of one that cannot be parsed, or whose OPT
-- is not obeyed, its code; and SERVFAIL if memory ran short while it was read. Only an update that is read can have serials, and for any other request nothing is loaded
pub data IsToldOf (first : List Record) (may : Bool) (request : List ℕ) (before after : ReaderState Version) (heading : Heading) (reported : UpdateOutcome) : Type 0 where
  read : (update : Update) → reads request ≡ SaysUpdate update → heading ≡ heading_of_update update → IsJudged first update may before after reported → IsToldOf first may request before after heading reported
  unread : (head : Head) → reads request ≡ Fault head reported.code → heading ≡ header_alone head → reported.serials ≡ None → after ≡ before → IsToldOf first may request before after heading reported
  bad_opt : (head : Head) (question : Question) (dnssec_ok : Bool) → reads request ≡ BadOpt head question reported.code dnssec_ok → heading ≡ heading_of_bad head question dnssec_ok → reported.serials ≡ None → after ≡ before
      → IsToldOf first may request before after heading reported
  starved : (head : Head) → IsWant request (NoMemory head) → heading ≡ header_alone head → reported.code ≡ ServFail → reported.serials ≡ None → after ≡ before → IsToldOf first may request before after heading reported

-- the result of a request that asks for an update and is not read, and what its reply repeats of it, whatever is known: the code of one that cannot be parsed, or whose OPT is
-- not obeyed, and SERVFAIL if memory ran short while it was read (own)
abbrev pub IsToldUnread : List ℕ → Heading → UpdateOutcome → Type 0
IsToldUnread request heading reported = (first : List Record) (may : Bool) (reader : ReaderState Version) → IsToldOf first may request reader reader heading reported

-- a request asks for an update, and its reply has no record but an OPT, and the code given to it (RFC 2136, 3.8; RFC 6891, 6.1.1)
pub record IsUpdateTold (first : List Record) (peer : Peer) (request : List ℕ) (before after : ReaderState Version) (octets : List ℕ) (reported : UpdateOutcome) : Type 0 where
  pub asks : is_update request ≡ true
  pub heading : Heading
  pub tells : IsToldOf first peer.may_update request before after heading reported
  pub reply : octets ≡ fit (coded heading reported.code) (limit_of peer.transport None)
