-- What queued updates get (RFC 2136, 3).
use Rattle.std.specs.Prelude.{◌≡◌, ◌⊎◌, ◌+◌, ◌≤◌, ℕ, List, [], ◌∷◌, ◌++◌, length, drop}
use Rattle.dns_rdata.specs.Numbers.{rcode_number}
use Rattle.dns_rdata.specs.declared.numbers.Rcode.{Rcode}
use Rattle.zone_tree.specs.Version.{Version}
use Rattle.update_batches.specs.declared.verdict.Verdict.{Verdict}
use Rattle.update_batches.specs.Verdict.{told_verdict, made_verdict, failed}
use Rattle.update_batches.specs.declared.queued_update.QueuedUpdate.{QueuedUpdate}
use Rattle.journal.specs.Batch.{Messages}
use Rattle.update_batches.specs.UpdateRequest.{passes, tells, makes, messages_of, serial_in}
use Rattle.update_batches.specs.Reply.{Reply}

-- the first of these verdicts, SERVFAIL where there is none (RFC 2136, 2.2)
abbrev pub first_verdict : List Verdict → Verdict
first_verdict [] = failed
first_verdict (verdict ∷ verdicts) = verdict

-- the reply to a request of these messages that gets this verdict
abbrev pub reply_to : Messages → Verdict → Reply
reply_to messages verdict = record { request = messages; code = rcode_number verdict.code }

-- the replies to a batch, each request of it with its verdict, SERVFAIL where there are too few
abbrev pub replies_to : List Verdict → List QueuedUpdate → List Reply
replies_to verdicts [] = []
replies_to verdicts (one ∷ batch) = reply_to (messages_of one.request) (first_verdict verdicts) ∷ replies_to (drop 1 verdicts) batch

module _ (published : List Version) (begun : ℕ) where
  -- an update gets a code in one of the versions that are published, which isn't older than the last of the first so many, and makes none of it: its verdict has that version's
  -- serial
  pub record IsToldIn (one : QueuedUpdate) (verdict : Verdict) : Type 0 where
    pub version : Version
    pub code : Rcode
    pub front : List Version
    pub newer : List Version
    pub place : published ≡ front ++ version ∷ newer
    pub late : begun ≤ length front + 1
    pub tells_it : tells version one.request code
    pub reported : verdict ≡ told_verdict (serial_in version) code

  -- or it makes the version after that one, and gets NOERROR with the serials of the two
  pub record IsMadeIn (one : QueuedUpdate) (verdict : Verdict) : Type 0 where
    pub version : Version
    pub next : Version
    pub front : List Version
    pub newer : List Version
    pub place : published ≡ front ++ version ∷ (next ∷ newer)
    pub late : begun ≤ length front + 1
    pub lets : passes version one.request
    pub makes_it : makes version one.request next
    pub reported : verdict ≡ made_verdict (serial_in version) (serial_in next)

  -- an update's verdict is so by the versions that are published; or it is SERVFAIL, where there is no memory or room for it, or the disk fails (own)
  abbrev pub IsDone : QueuedUpdate → Verdict → Type 0
  IsDone one verdict = IsToldIn one verdict ⊎ IsMadeIn one verdict ⊎ (verdict ≡ failed)

  -- so it is of each of a batch
  abbrev pub AreDone : List Verdict → List QueuedUpdate → Type 0
  AreDone verdicts [] = Unit {0}
  AreDone verdicts (one ∷ batch) = IsDone one (first_verdict verdicts) × AreDone (drop 1 verdicts) batch
