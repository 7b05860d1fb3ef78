-- A file's octets by the calls made on it, where the system does what its results say (own).
use Rattle.std.specs.Prelude.{ℕ, ◌+◌, List, [], ◌∷◌, ◌++◌, take, slice_index, ◌==◌, if◌then◌else◌}

-- a call, with its result
pub data FileCall : Type 0 where
  -- the file was created with these octets, on the disk
  begun : List ℕ → FileCall
  -- these octets were appended
  appended : List ℕ → FileCall
  -- all octets were synced to the disk
  synced : FileCall
  -- all octets after the first so many were cut off
  cut : ℕ → FileCall
  -- a cut was tried, and failed
  not_cut : ℕ → FileCall
  -- a sync was tried, and failed
  not_synced : FileCall
  -- an append of these octets was tried, and failed
  not_appended : List ℕ → FileCall
  -- a rename of the file was tried, after which it may have its new name
  renamed : FileCall

-- the call of two numbers and octets
abbrev pub call_of : List ℕ → List ℕ → FileCall
call_of numbers octets =
    if slice_index numbers 0 == 0 then begun octets
    else if slice_index numbers 0 == 1 then appended octets
    else if slice_index numbers 0 == 2 then synced
    else if slice_index numbers 0 == 3 then cut (slice_index numbers 1)
    else if slice_index numbers 0 == 4 then not_cut (slice_index numbers 1)
    else if slice_index numbers 0 == 5 then not_synced
    else if slice_index numbers 0 == 6 then not_appended octets
    else renamed

-- the octets as they are after calls, the last call first
abbrev pub written_by : List FileCall → List ℕ
written_by [] = []
written_by (begun octets ∷ calls) = octets
written_by (appended octets ∷ calls) = written_by calls ++ octets
written_by (synced ∷ calls) = written_by calls
written_by (cut len ∷ calls) = take len (written_by calls)
written_by (not_cut len ∷ calls) = written_by calls
written_by (not_synced ∷ calls) = written_by calls
written_by (not_appended octets ∷ calls) = written_by calls
written_by (renamed ∷ calls) = written_by calls

-- the octets that are on the disk after calls
abbrev pub synced_by : List FileCall → List ℕ
synced_by [] = []
synced_by (begun octets ∷ calls) = octets
synced_by (appended octets ∷ calls) = synced_by calls
synced_by (synced ∷ calls) = written_by calls
synced_by (cut len ∷ calls) = take len (synced_by calls)
synced_by (not_cut len ∷ calls) = take len (synced_by calls)
synced_by (not_synced ∷ calls) = synced_by calls
synced_by (not_appended octets ∷ calls) = synced_by calls
synced_by (renamed ∷ calls) = synced_by calls

-- how many of the calls failed so that it is unknown what is written
abbrev pub lost_by : List FileCall → ℕ
lost_by [] = 0
lost_by (begun octets ∷ calls) = lost_by calls
lost_by (appended octets ∷ calls) = lost_by calls
lost_by (synced ∷ calls) = lost_by calls
lost_by (cut len ∷ calls) = lost_by calls
lost_by (not_cut len ∷ calls) = lost_by calls + 1
lost_by (not_synced ∷ calls) = lost_by calls + 1
lost_by (not_appended octets ∷ calls) = lost_by calls
lost_by (renamed ∷ calls) = lost_by calls

-- what was on the disk after each call, the last call first, since the file may have its name
abbrev pub history_by : List FileCall → List (List ℕ)
history_by [] = []
history_by (renamed ∷ calls) = synced_by calls ∷ []
history_by (call ∷ calls) = synced_by (call ∷ calls) ∷ history_by calls
