-- The results of queued updates, which are judged and made to survive a restart (RFC 2136, 3 and 3.5).
use Rattle.std.specs.Prelude.{◌≡◌, ◌≢◌, ◌≤◌, ◌⊎◌, ℕ, Bool, List, [], ◌∷◌, Option, None, Some, unwrap_or, drop}
use Rattle.dns_rdata.specs.Record.{Record}
use Rattle.dns_rdata.specs.declared.numbers.Rcode.{Rcode}
use Rattle.dns_rdata.specs.declared.numbers.Rcode.TheVariants.{NoError, ServFail}
use Rattle.dns_message.specs.declared.update.Update.{Update}
use Rattle.zone_tree.specs.Version.{Version, zone_serial}
use Rattle.update_core.specs.Verdict.{verdict}
use Rattle.update_core.specs.Act.{act}
use Rattle.update_core.specs.Applied.{code_of}
use Rattle.update_batches.specs.declared.verdict.Verdict.{Verdict}
use Rattle.update_batches.specs.declared.queued_update.QueuedUpdate.{QueuedUpdate}
use Rattle.update_batches.specs.Results.{first_verdict}
use Rattle.zone_server.specs.declared.update_result.QueuedResult.{QueuedResult}
use Rattle.update_batches.specs.Engine.{AreMade}
use Rattle.dns_engine.specs.Chain.{IsPublished}
use Rattle.dns_engine.specs.Held.{IsLatest}
use Rattle.dns_engine.specs.Replayed.{IsReplay}
use Rattle.update_batches.specs.declared.update_request.UpdateRequest.{UpdateRequest}
use Rattle.zone_server.specs.declared.update_result.UpdateResult.{UpdateResult}
use Rattle.update_batches.specs.declared.verdict.Serials.{Serials}
use Rattle.zone_server.specs.declared.update_result.Poll.{Poll}
use Rattle.zone_server.specs.declared.update_result.Poll.TheVariants.{Unknown as IsUnknown, Pending as IsPending, Ready as IsReady}
use Rattle.zone_server.specs.declared.pending_replies.Ticket.{Ticket}
use Rattle.zone_server.specs.declared.pending_replies.Ticket.TheVariants.{Free, Pending, Abandoned, Ready}

-- what an update makes of a version, if that changes the zone, is the zone of the next version known to be published (RFC 2136, 3)
abbrev pub IsMadeBehind : List Version → Version → Update → Bool → Type 0
IsMadeBehind newer version update may =
    (zone : List Record) → verdict version.zone update may ≡ None → act version.zone update ≡ Some zone → zone ≢ version.zone
    → (next : Version) × (more : List Version) × (newer ≡ next ∷ more) × (next.zone ≡ zone)

-- the code of an update in a version: that of the first rule that it breaks, or SERVFAIL if it exceeds a limit, else NOERROR, and what it makes is published after that
-- version. Or SERVFAIL, for lack of memory, of a number or of the journal for what it makes (RFC 2136, 3 and 3.5; own)
abbrev pub IsToldIn : Version → List Version → Update → Bool → Rcode → Type 0
IsToldIn version newer update may code =
    ((code ≡ unwrap_or (code_of version.zone update may) NoError) × IsMadeBehind newer version update may) ⊎ (code ≡ ServFail)

-- the serials given with this code for an update in a version are its own: with NOERROR that of the version's zone, and that of the zone that it makes of it, which may be the
-- same. With any other code there are none (own)
abbrev pub AreOwn : Version → Update → Rcode → Option Serials → Type 0
AreOwn version update code None = code ≢ NoError
AreOwn version update code (Some serials) =
    (code ≡ NoError) × (serials.before.0 ≡ zone_serial version.zone) × (zone : List Record) × (act version.zone update ≡ Some zone) × (serials.after.0 ≡ zone_serial zone)

-- an update gets its code and its own serials in one of the versions known to be published, which is the first zone with updates replayed, and whose number is at least this
-- one (RFC 2136, 3; own)
pub record IsDone (first : List Record) (published : List Version) (done : UpdateResult) : Type 0 where
  pub version : Version
  pub replayed : IsReplay first version
  pub least : done.least ≤ version.number
  pub here : IsPublished first published version
  pub reported : IsToldIn version here.newer done.asked.update done.asked.may done.code
  pub own : AreOwn version done.asked.update done.code done.serials

-- the result at a ticket holds for the versions known to be published
abbrev pub IsTicketDone : List Record → List Version → Ticket → Type 0
IsTicketDone first published (Free next) = Unit {0}
IsTicketDone first published Pending = Unit {0}
IsTicketDone first published Abandoned = Unit {0}
IsTicketDone first published (Ready done) = IsDone first published done

-- the result fetched from a ticket holds for the versions known to be published
abbrev pub IsFetched : List Record → List Version → Poll → Type 0
IsFetched first published IsUnknown = Unit {0}
IsFetched first published IsPending = Unit {0}
IsFetched first published (IsReady done) = IsDone first published done

-- each version is made from the one before it, the first from the last one published (RFC 2136, 3)
abbrev pub IsJudgedIn : List Record → List Version → List Version → Type 0
IsJudgedIn first published versions = (last : Version) × IsLatest first published last × AreMade last versions

-- an update gets this code and these serials in a version whose number is at least this one
abbrev pub IsDoneBy : List Record → List Version → UpdateRequest → ℕ → Rcode → Option Serials → Type 0
IsDoneBy first published asked number code serials =
    IsDone first published (record { asked = asked; least = number; code = code; serials = serials })

-- the result of a queued update with a verdict, judged in a version whose number is at least this one, with the destination of its reply
abbrev pub queued_result : ℕ → QueuedUpdate → Verdict → QueuedResult
queued_result number one verdict =
    record { done = record { asked = one.request; least = number; code = verdict.code; serials = verdict.serials }; reply_to = one.reply_to }

-- the results of a batch, each update of it with its verdict, SERVFAIL where there are too few
abbrev pub queued_results : ℕ → List Verdict → List QueuedUpdate → List QueuedResult
queued_results number verdicts [] = []
queued_results number verdicts (one ∷ batch) = queued_result number one (first_verdict verdicts) ∷ queued_results number (drop 1 verdicts) batch

-- these results hold for the versions known to be published
abbrev pub AreResults : List Record → List Version → List QueuedResult → Type 0
AreResults first published [] = Unit {0}
AreResults first published (result ∷ results) = IsDone first published result.done × AreResults first published results
