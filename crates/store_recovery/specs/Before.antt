-- Recovery of what is before damage (own).
use Rattle.std.specs.Prelude.{◌≡◌, ◌⊎◌, ℕ, ◌+◌, List, length, take}
use Rattle.journal.specs.declared.heads.Head.{Head}
use Rattle.journal.specs.declared.heads.HeadFault.{HeadFault}
use Rattle.journal.specs.declared.start.Refused.TheVariants.{BadHead}
use Rattle.journal.specs.Head.{IsHeadFault}
use Rattle.journal.specs.Recovered.{IsOpened}
use Rattle.store_recovery.specs.declared.fault.StartFault.{StartFault}
use Rattle.store_recovery.specs.declared.fault.StartFault.TheVariants.{Journal, NoMemory}
use Rattle.store_recovery.specs.declared.start.Recovery.{Recovery}
use Rattle.store_recovery.specs.Start.{IsStarted, IsStartFault}

-- this octet is the position after the journal's whole frames, which follow one another from its head on
pub record EndsWhole (octets : List ℕ) (end : ℕ) : Type 0 where
  pub head : Head
  pub bodies : List (List ℕ)
  pub rest : List ℕ
  pub opened : IsOpened octets head bodies rest
  pub place : end + length rest ≡ length octets

-- why no frames are read: the journal doesn't begin with a head; or there is no memory
abbrev pub IsUnread : List ℕ → StartFault → Type 0
IsUnread octets fault = ((why : HeadFault) × IsHeadFault octets why × (fault ≡ Journal (BadHead why))) ⊎ (fault ≡ NoMemory)

-- a recovery from a journal's octets up to the end of its whole frames
pub record IsStartedBefore (text octets : List ℕ) (start : Recovery) : Type 0 where
  pub end : ℕ
  pub whole : EndsWhole octets end
  pub started : IsStarted text (take end octets) start

-- why these octets can't be recovered
pub record IsCutFault (text octets : List ℕ) (fault : StartFault) : Type 0 where
  pub end : ℕ
  pub whole : EndsWhole octets end
  pub why : IsStartFault text (take end octets) fault

-- why there is no recovery of what is before damage
abbrev pub IsBeforeFault : List ℕ → List ℕ → StartFault → Type 0
IsBeforeFault text octets fault = IsUnread octets fault ⊎ IsCutFault text octets fault
