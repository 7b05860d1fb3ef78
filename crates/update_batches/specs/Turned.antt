-- What becomes of queued updates: they are judged one after another, written to the disk, published and replied to (RFC 2136, 3 and 3.5).
use Rattle.std.specs.Prelude.{◌≡◌, ◌⊎◌, ◌+◌, ◌<◌, ℕ, List, [], ◌++◌, length, replicate, min, max, Option, MatchOption}
use Rattle.dns_rdata.specs.Record.{Record}
use Rattle.zone_tree.specs.Version.{Version}
use Rattle.journal.specs.Batch.{Messages}
use Rattle.update_batches.specs.declared.verdict.Verdict.{Verdict}
use Rattle.update_batches.specs.Verdict.{failed}
use Rattle.update_batches.specs.declared.queued_update.QueuedUpdate.{QueuedUpdate}
use Rattle.update_batches.specs.Engine.{IsLast}
use Rattle.update_batches.specs.Batch.{newest_of, Judged}
use Rattle.update_batches.specs.Results.{replies_to}
use Rattle.update_batches.specs.Reply.{Reply}

-- the state of an update thread: the versions that are published; how many more are sure to find room; the replies to requests; the store; and the requests that were taken, and
-- wait for their batch
pub record ThreadState (S : Type 0) : Type 0 where
  pub published : List Version
  pub room : ℕ
  pub replied : List Reply
  pub store : S
  pub waiting : List QueuedUpdate

abbrev pub state_of : {S : Type 0} → List Version → ℕ → List Reply → S → List QueuedUpdate → ThreadState S
state_of published room replied store waiting = record { published = published; room = room; replied = replied; store = store; waiting = waiting }

-- requests get verdicts from a version on, batch after batch, each batch in the version that those before it make: the versions that they make, and the messages of those that make
-- one. A batch lasts; or some of it would change the zone, and it cannot be written: each of it gets SERVFAIL, and makes nothing
pub data AreAnswered (first : Version) : List QueuedUpdate → List Verdict → List Version → List Messages → Type 0 where
  unasked : AreAnswered first [] [] [] []
  lasting : {requests : List QueuedUpdate} {verdicts : List Verdict} {versions : List Version} {updates : List Messages} {batch : List QueuedUpdate}
      {batch_verdicts : List Verdict} {made : List Version} {batch_updates : List Messages} → AreAnswered first requests verdicts versions updates
      → Judged (newest_of first versions) batch batch_verdicts made batch_updates
      → AreAnswered first (requests ++ batch) (verdicts ++ batch_verdicts) (versions ++ made) (updates ++ batch_updates)
  failing : {requests : List QueuedUpdate} {verdicts : List Verdict} {versions : List Version} {updates : List Messages} {batch : List QueuedUpdate}
      {batch_verdicts : List Verdict} {made : List Version} {batch_updates : List Messages} → AreAnswered first requests verdicts versions updates
      → Judged (newest_of first versions) batch batch_verdicts made batch_updates → 0 < length made
      → AreAnswered first (requests ++ batch) (verdicts ++ replicate (length batch) failed) versions updates

-- `has` says of a store that, after a zone, it has these updates on the disk, in this order, and that they end at the last of the versions that are published; `leaves`, that a crash
-- at any moment from one state of a store to another one leaves what a start reads as a zone with these updates first
module _ {S : Type 0} (has : List Record → S → List Version → List Messages → Type 0) (leaves : List Record → S → S → List Messages → Type 0) where
  -- from one state of a store to another one, call after call: after each call the store has the updates that it had, and perhaps more after them; and a crash at any moment during
  -- the call leaves those first that it had when the call began
  pub data IsCrashSafe (zone : List Record) (old : S) (before : List Messages) : S → List Version → List Messages → Type 0 where
    uncalled : {published : List Version} → has zone old published before → IsCrashSafe zone old before old published before
    called : {mid new : S} {versions later : List Version} {updates : List Messages} (more : List Messages) → IsCrashSafe zone old before mid versions updates
        → leaves zone mid new updates → has zone new later (updates ++ more) → IsCrashSafe zone old before new later (updates ++ more)

  -- each request gets what it gets in the version published last, or in the one that those before it make of that; the updates of those that change the zone are on the disk, and
  -- what they make is published, in their order
  pub record Lasts (published later : List Version) (batch : List QueuedUpdate) (verdicts : List Verdict) (before after : S) : Type 0 where
    pub first : Version
    pub versions : List Version
    pub updates : List Messages
    pub last : IsLast published first
    pub judged : Judged first batch verdicts versions updates
    pub later_are : later ≡ published ++ versions
    pub stored : (zone : List Record) (stood : List Messages) → has zone before published stood → has zone after later (stood ++ updates)
    pub crash : (zone : List Record) (stood : List Messages) → has zone before published stood → IsCrashSafe zone before stood after later (stood ++ updates)

  -- some would change the zone, and cannot be written: each of the batch gets SERVFAIL, nothing is published, and what was on the disk is there
  pub record Fails (published later : List Version) (batch : List QueuedUpdate) (verdicts : List Verdict) (before after : S) : Type 0 where
    pub first : Version
    pub judged_verdicts : List Verdict
    pub versions : List Version
    pub updates : List Messages
    pub last : IsLast published first
    pub judged : Judged first batch judged_verdicts versions updates
    pub some : 0 < length versions
    pub reported : verdicts ≡ replicate (length batch) failed
    pub later_are : later ≡ published
    pub stored : (zone : List Record) (stood : List Messages) → has zone before published stood → has zone after later stood
    pub crash : (zone : List Record) (stood : List Messages) → has zone before published stood → IsCrashSafe zone before stood after later stood

  -- a batch lasts, or fails, for this reason
  abbrev pub IsTold : {F : Type 0} → List Version → List Version → List QueuedUpdate → List Verdict → Option F → S → S → Type 0
  IsTold published later batch verdicts fault before after =
      MatchOption fault
      (Lasts published later batch verdicts before after)
      (λ _. Fails published later batch verdicts before after)

  -- a turn: requests arrive after those that wait, and the first of all are a batch, as many as versions are sure to find room when it is begun, but one at least and 64 at most;
  -- the others wait on. The batch lasts, or fails, with nothing published but what it makes, for which the room is used; and each of it gets its reply
  pub record HasTurned {F : Type 0} (fault : Option F) (old new : ThreadState S) : Type 0 where
    pub arrived : List QueuedUpdate
    pub batch : List QueuedUpdate
    pub taken : old.waiting ++ arrived ≡ batch ++ new.waiting
    pub some : 0 < length batch
    pub room : ℕ
    pub many : (new.waiting ≡ []) ⊎ (length batch ≡ min (max room 1) 64)
    pub left : new.room + length new.published ≡ room + length old.published
    pub verdicts : List Verdict
    pub reported : IsTold old.published new.published batch verdicts fault old.store new.store
    pub replied : new.replied ≡ old.replied ++ replies_to verdicts batch

  -- turns, one after the other: the requests that waited and arrived since, but for those that wait still, are answered in order, each in the version that those before it make of
  -- the one published last; what they make is published, in that order; each gets its reply; and where updates were on the disk after a zone, these are after them, whenever a crash comes
  pub record HasServed (old new : ThreadState S) : Type 0 where
    pub arrived : List QueuedUpdate
    pub requests : List QueuedUpdate
    pub taken : old.waiting ++ arrived ≡ requests ++ new.waiting
    pub verdicts : List Verdict
    pub each : length verdicts ≡ length requests
    pub versions : List Version
    pub updates : List Messages
    pub answered : (first : Version) → IsLast old.published first → AreAnswered first requests verdicts versions updates
    pub published : new.published ≡ old.published ++ versions
    pub replied : new.replied ≡ old.replied ++ replies_to verdicts requests
    pub stored : (zone : List Record) (stood : List Messages) → has zone old.store old.published stood → has zone new.store new.published (stood ++ updates)
    pub crash : (zone : List Record) (stood : List Messages) → has zone old.store old.published stood → IsCrashSafe zone old.store stood new.store new.published (stood ++ updates)
