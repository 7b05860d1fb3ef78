-- The state of a log that appends to a journal.
use Rattle.std.specs.Prelude.{◌≡◌, ◌⊎◌, ◌≤◌, ◌+◌, ◌^◌, ℕ, Bool, true, false, List, ◌++◌, length}
use Rattle.journal.specs.declared.heads.Head.{Head}
use Rattle.journal.specs.Head.{head_of, salt_of}
use Rattle.journal.specs.Frame.{frames_of, Fit}
use Rattle.journal.specs.declared.log.Log.{Log}

-- the octets of a journal: its head, and the frames of these bodies
abbrev pub octets_of : Head → List (List ℕ) → List ℕ
octets_of head bodies = head_of head ++ frames_of (salt_of head) 0 bodies

module _ {D F : Type 0} where
  -- the disk of the journal
  abbrev pub disk_of : Log D F → D
  disk_of log = log.disk

  -- nothing more can be appended
  abbrev pub is_stuck : Log D F → Bool
  is_stuck log = log.stuck

  -- no further batch can be counted, or the length with so many octets more would reach 2^64
  abbrev pub IsFull : Log D F → ℕ → Type 0
  IsFull log len = (2 ^ 64 ≤ log.number + 1) ⊎ (2 ^ 64 ≤ log.end + len + 52)

  -- the journal of this head and these bodies is written, is on the disk, and can be appended to
  pub record Holds (written synced : D → List ℕ) (head : Head) (log : Log D F) (bodies : List (List ℕ)) : Type 0 where
    pub is_written : written log.disk ≡ octets_of head bodies
    pub is_synced : synced log.disk ≡ octets_of head bodies
    pub salt : log.salt ≡ salt_of head
    pub number : log.number ≡ length bodies
    pub end : log.end ≡ length (octets_of head bodies)
    pub fit : Fit 0 bodies
    pub goes_on : log.stuck ≡ false

  -- that journal is on the disk, and nothing more can be appended
  pub record IsStuck (synced : D → List ℕ) (head : Head) (log : Log D F) (bodies : List (List ℕ)) : Type 0 where
    pub is_synced : synced log.disk ≡ octets_of head bodies
    pub stuck : log.stuck ≡ true
