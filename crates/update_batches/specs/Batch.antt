-- Updates judged one after another, and written together (RFC 2136, 3).
use Rattle.std.specs.Prelude.{◌≤◌, ◌<◌, ℕ, List, [], ◌∷◌, ◌++◌, length, map}
use Rattle.dns_rdata.specs.declared.numbers.Rcode.{Rcode}
use Rattle.zone_tree.specs.Version.{Version}
use Rattle.journal.specs.Batch.{Messages, batch_of}
use Rattle.journal.specs.Frame.{body_limit}
use Rattle.update_batches.specs.declared.verdict.Verdict.{Verdict}
use Rattle.update_batches.specs.Verdict.{told_verdict, made_verdict, failed}
use Rattle.update_batches.specs.declared.queued_update.QueuedUpdate.{QueuedUpdate}
use Rattle.update_batches.specs.declared.version_update.VersionUpdate.{VersionUpdate}
use Rattle.update_batches.specs.UpdateRequest.{passes, tells, makes, messages_of, serial_in}

-- the last of versions that were made from a first one, which is that one where none was
abbrev pub newest_of : {V : Type 0} → V → List V → V
newest_of first [] = first
newest_of first (version ∷ versions) = newest_of version versions

-- the versions of these, and their updates
abbrev pub versions_in : List VersionUpdate → List Version
versions_in updates = map (λ one. one.version) updates

abbrev pub updates_of : List VersionUpdate → List Messages
updates_of updates = map (λ one. one.messages) updates

-- a journal's bodies with the batch of these updates, if there are any
abbrev pub logged : List (List ℕ) → List Messages → List (List ℕ)
logged bodies [] = bodies
logged bodies (update ∷ updates) = bodies ++ batch_of (update ∷ updates) ∷ []

-- requests judged from a version on, each in the version that those before it made: their verdicts, each with the serials of that version and of the one that it makes itself;
-- the versions that they make; and the messages of those that make one. A request that each rule lets through may get SERVFAIL, and then makes none
pub data Judged (first : Version) : List QueuedUpdate → List Verdict → List Version → List Messages → Type 0 where
  nothing : Judged first [] [] [] []
  reported : {requests : List QueuedUpdate} {verdicts : List Verdict} {made : List Version} {updates : List Messages} (one : QueuedUpdate) (code : Rcode)
      → Judged first requests verdicts made updates → tells (newest_of first made) one.request code
      → Judged first (requests ++ one ∷ []) (verdicts ++ told_verdict (serial_in (newest_of first made)) code ∷ []) made updates
  starved : {requests : List QueuedUpdate} {verdicts : List Verdict} {made : List Version} {updates : List Messages} (one : QueuedUpdate)
      → Judged first requests verdicts made updates → passes (newest_of first made) one.request
      → Judged first (requests ++ one ∷ []) (verdicts ++ failed ∷ []) made updates
  changed : {requests : List QueuedUpdate} {verdicts : List Verdict} {made : List Version} {updates : List Messages} (one : QueuedUpdate) (next : Version)
      → Judged first requests verdicts made updates → passes (newest_of first made) one.request → makes (newest_of first made) one.request next
      → Judged first (requests ++ one ∷ []) (verdicts ++ made_verdict (serial_in (newest_of first made)) (serial_in next) ∷ []) (made ++ next ∷ [])
      (updates ++ messages_of one.request ∷ [])

-- a batch of requests judged from a version on: their verdicts, and those that make a version, at most so many, whose batch a frame takes
pub record IsBatch (first : Version) (requests : List QueuedUpdate) (verdicts : List Verdict) (updates : List VersionUpdate) (room : ℕ) : Type 0 where
  pub judged : Judged first requests verdicts (versions_in updates) (updates_of updates)
  pub few : length updates ≤ room
  pub short : length (batch_of (updates_of updates)) < body_limit
