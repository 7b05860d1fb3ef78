-- Which lines are of the call that a line sends, what it is told at its end, and what lines make of the versions that are published (own;
-- RFC 2136, 3.8).
use Rattle.std.specs.Prelude.{◌≡◌, ℕ, ◌<◌, ◌⊎◌, List, length, take, Some}
use Rattle.std.specs.List.{slice_get}
use Rattle.cell_core.specs.Cell.{Cell}
use Rattle.cell_core.specs.Shows.{Shows}
use Rattle.cell_core.specs.Words.{State}
use Rattle.dns_message.specs.declared.update.Update.{Update as DynamicUpdate}
use Rattle.dns_rdata.specs.declared.numbers.Rcode.TheVariants.{NoError}
use Rattle.dns_rdata.specs.Record.{Record}
use Rattle.zone_tree.specs.Version.{Version as Numbered}
use Rattle.world_run.specs.declared.calls.UnderWay.{UnderWay}
use Rattle.world_run.specs.declared.step.Answer.{Answer}
use Rattle.world_run.specs.declared.step.Call.{Call}
use Rattle.world_run.specs.declared.step.StepName.{StepName}
use Rattle.world_run.specs.declared.step.WorldReply.{WorldReply}
use Rattle.world_run.specs.declared.step.WorldReply.TheVariants.{Answered, Begun, Last}
use Rattle.world_run.specs.declared.step.WorldStep.{WorldStep}
use Rattle.world_run.specs.declared.step.WorldStep.TheVariants.{Begin, Next}
use Rattle.world_laws.specs.Replays.{IsReplayed}
use Rattle.serve_core.specs.Heading.{heading_of_update}
use Rattle.world_laws.specs.UpdateAnswers.{heading_of}
use Rattle.world_run.specs.World.{World, started, call_of, code_reply, turn, play}

-- the line at a place ends a call under way of this name, and tells what it gave (own)
abbrev pub EndsUnder : List WorldStep → List WorldReply → ℕ → List ℕ → Answer → Type 0
EndsUnder lines replies place name answer =
    (slice_get lines place ≡ Some (Next name)) × (step : StepName) × (slice_get replies place ≡ Some (Last step answer))

-- the call that the line at a place put under way, under this name, is under way still before the line at a further place (own)
pub record IsOpen (lines : List WorldStep) (replies : List WorldReply) (sent place : ℕ) (name : List ℕ) : Type 0 where
  pub call : Call
  pub line : slice_get lines sent ≡ Some (Begin name call)
  pub reply : slice_get replies sent ≡ Some Begun
  pub before : sent < place
  pub unended : (between : ℕ) (answer : Answer) → sent < between → between < place → EndsUnder lines replies between name answer → ⊥

-- the line at a place takes steps of the call that a line sends: it is that line, or one that goes on with the call (own)
abbrev pub IsOfCall : List WorldStep → List WorldReply → ℕ → ℕ → Type 0
IsOfCall lines replies sent place =
    (place ≡ sent) ⊎ ((name : List ℕ) × IsOpen lines replies sent place name × (slice_get lines place ≡ Some (Next name)))

-- the call that a line sends is at its end at a place, where it gives this (own)
abbrev pub GivesAt : List WorldStep → List WorldReply → ℕ → ℕ → Answer → Type 0
GivesAt lines replies sent place answer =
    ((place ≡ sent) × (slice_get replies place ≡ Some (Answered answer)))
    ⊎ ((name : List ℕ) × IsOpen lines replies sent place name × EndsUnder lines replies place name answer)

-- the update that a line sends is told NOERROR at its end, or it is under way still after all lines (RFC 2136, 3.8; own)
abbrev pub IsToldNoError : List WorldStep → List WorldReply → World → ℕ → DynamicUpdate → Type 0
IsToldNoError lines replies world sent update =
    ((place : ℕ) × GivesAt lines replies sent place (code_reply (heading_of_update update) NoError))
    ⊎ ((name : List ℕ) × (call : UnderWay) × IsOpen lines replies sent (length lines) name × (call_of name world.calls ≡ Some call) × (heading_of call.phase ≡ Some (heading_of_update update)))

-- whatever cell the words show, later ones show one in which the same versions are published (own)
abbrev pub LeavesPublished : State Numbered → State Numbered → Type 0
LeavesPublished words later = (cell : Cell Numbered) → Shows words cell → (next : Cell Numbered) × Shows later next × (next.published ≡ cell.published)

-- each update that made a version is told NOERROR; and each line is of the call of one of them, or leaves the versions that are published
-- as they were (RFC 2136, 3; own)
pub record AreToldInTurn (first : List Record) (keep window : ℕ) (lines : List WorldStep) (replies : List WorldReply) (world : World) : Type 0 where
  pub replayed : IsReplayed first lines world
  pub reported : (k : ℕ) (update : DynamicUpdate) → slice_get replayed.updates k ≡ Some update → IsToldNoError lines replies world (replayed.in_turn.place k) update
  pub others : (place : ℕ) (line : WorldStep) (earlier : List WorldReply) (before : World) (reply : WorldReply) (after : World) → slice_get lines place ≡ Some line
      → play (started first keep window) (take place lines) ≡ Some (earlier, before) → turn before line ≡ Some (reply, after)
      → LeavesPublished before.words after.words ⊎ ((k : ℕ) × (k < length replayed.updates) × IsOfCall lines replies (replayed.in_turn.place k) place)
