-- The owners that a call has in hand, by how far it has come.
use Rattle.std.proofs.Common.{◌≡◌, ℕ, ◌+◌, ◌≤◌, Bool, true, false, List, [], ◌∷◌, ◌++◌, length, drop, Option, Some, None}
use Rattle.std.specs.Prelude.{is_some, nat_lt, bytes_eq}
use Rattle.cell_core.proofs.CountLemmas.{one_if}
use Rattle.cell_core.specs.Words.{State}
use Rattle.cell_core.specs.declared.words.Publisher.TheVariants.{Probing}
use Rattle.world_run.specs.declared.phase.Keeping.{Keeping}
use Rattle.world_run.specs.declared.phase.Phase.{Phase}
use Rattle.world_run.specs.declared.phase.Phase.TheVariants as phase
use Rattle.world_run.specs.declared.phase.Purpose.{Purpose}
use Rattle.world_run.specs.declared.phase.Purpose.TheVariants as purpose
use Rattle.world_run.specs.declared.phase.End.{End}
use Rattle.world_run.specs.declared.phase.End.TheVariants.{Owned, OwnedWeakly, Replied, NoSlot, Kept, Sent}
use Rattle.world_run.specs.declared.entries.Entry.{Entry}
use Rattle.dns_rdata.specs.declared.numbers.Serial.{Serial}
use Rattle.world_run.specs.Entries.{leaving, leaving_for}
use Rattle.world_run.specs.declared.phase.Progress.{Progress}
use Rattle.world_run.specs.declared.phase.Progress.TheVariants.{On, Done}
use Rattle.zone_tree.specs.Version.{Version as Numbered}
use Rattle.world_run.specs.Phases.{reserves, reserves_weakly, updates}
use Rattle.world_laws.proofs.UseLemmas.{UseKind, Use, InUse}
use Rattle.world_laws.proofs.UseLemmas.UseKind.{holds, has, weakly, notes, buries, fades, resets, frees}

abbrev pub Zones : Type 0
Zones = State Numbered

abbrev pub use_of : ℕ → UseKind → Use
use_of owner use_kind = record { owner = owner; use_kind = use_kind }

-- what stays for an update under way as it is: which of the versions that are kept is to be given up, how many they are, and the window
pub record Stays : Type 0 where
  pub oldest : Option ℕ
  pub count : ℕ
  pub window : ℕ
  pub entries : List Entry

-- the oldest version that is kept, where it is to be given up, in an update's hand
abbrev pub oldest_uses : ℕ → Option ℕ → List Use
oldest_uses before None = []
oldest_uses before (Some owner) = use_of owner (has before) ∷ []

-- weak owners, and strong ones, which are alike
abbrev pub weak_uses : List ℕ → List Use
weak_uses [] = []
weak_uses (o ∷ os) = use_of o weakly ∷ weak_uses os

abbrev pub holding_uses : List ℕ → List Use
holding_uses [] = []
holding_uses (o ∷ os) = use_of o holds ∷ holding_uses os

-- the window's weak owners: its entries are of the last of so many versions, in turn
abbrev pub window_uses : ℕ → List Entry → List Use
window_uses total [] = []
window_uses total (entry ∷ entries) = use_of entry.owner (notes entry.number (length (entry ∷ entries)) total) ∷ window_uses total entries

-- the weak owner of a new entry, which is of the last version
abbrev pub entry_uses : ℕ → Option Entry → List Use
entry_uses last None = []
entry_uses last (Some entry) = use_of entry.owner (notes entry.number 1 (last + 1)) ∷ []

abbrev pub serial_of_entry : Option Entry → Option Serial
serial_of_entry None = None
serial_of_entry (Some entry) = Some entry.serial

-- the entries that stay where one of a serial is entered
abbrev pub staying : Stays → Option Serial → List Entry
staying stays None = stays.entries
staying stays (Some serial) = drop (length (leaving stays.window stays.entries serial.0)) stays.entries

-- an update has these in hand up to its end, or those of them that haven't left
abbrev pub early_uses : ℕ → Stays → Option ℕ → List Use
early_uses before stays oldest = oldest_uses before oldest ++ window_uses (before + stays.count) stays.entries

abbrev pub late_uses : ℕ → ℕ → Stays → Option Entry → List ℕ → List Use
late_uses last before stays entry leaving = entry_uses last entry ++ (weak_uses leaving ++ window_uses (before + stays.count) (staying stays (serial_of_entry entry)))

abbrev pub for_uses : ℕ → ℕ → Stays → Purpose → List Use
for_uses last before stays purpose.Drop = []
for_uses last before stays (purpose.Publish keeping kept entry) = use_of kept (has last) ∷ (entry_uses last entry ++ early_uses before stays keeping.oldest)
for_uses last before stays (purpose.Oldest head kept entry leaving) = use_of kept (has last) ∷ late_uses last before stays entry leaving
for_uses last before stays (purpose.Leaves head kept entry leaving) = use_of kept (has last) ∷ late_uses last before stays entry leaving
for_uses last before stays (purpose.Sent sending owners) = holding_uses owners

abbrev pub phase_uses : ℕ → ℕ → Stays → Phase → List Use
phase_uses last before stays (phase.Load name) = []
phase_uses last before stays (phase.Look name owner) = []
phase_uses last before stays (phase.Raise name owner) = []
phase_uses last before stays (phase.Note name owner) = []
phase_uses last before stays (phase.Seek owner seeking) = holding_uses seeking.owners
phase_uses last before stays (phase.Gain owner seeking) = holding_uses seeking.owners
phase_uses last before stays (phase.Probe version keeping) = early_uses before stays keeping.oldest
phase_uses last before stays (phase.Prepare version keeping) = early_uses before stays keeping.oldest
phase_uses last before stays (phase.Swap keeping) = early_uses before stays keeping.oldest
phase_uses last before stays (phase.Settle keeping) = early_uses before stays keeping.oldest
phase_uses last before stays (phase.Keep given keeping) = use_of given holds ∷ early_uses before stays keeping.oldest
phase_uses last before stays (phase.Enter given kept keeping) = use_of given holds ∷ (use_of kept (has last) ∷ early_uses before stays keeping.oldest)
phase_uses last before stays (phase.Release owner for) = use_of owner holds ∷ for_uses last before stays for
phase_uses last before stays (phase.Bury owner for) = use_of owner buries ∷ for_uses last before stays for
phase_uses last before stays (phase.Fade owner None for) = use_of owner weakly ∷ for_uses last before stays for
phase_uses last before stays (phase.Fade owner (Some number) for) = use_of owner fades ∷ for_uses last before stays for
phase_uses last before stays (phase.Reset owner number for) = use_of owner resets ∷ for_uses last before stays for
phase_uses last before stays (phase.Free owner number for) = use_of owner frees ∷ for_uses last before stays for

abbrev pub end_uses : ℕ → ℕ → Stays → End → List Use
end_uses last before stays (Owned name owner number) = use_of owner holds ∷ []
end_uses last before stays (OwnedWeakly name owner number) = use_of owner weakly ∷ []
end_uses last before stays (Replied answer) = []
end_uses last before stays (NoSlot head) = early_uses before stays stays.oldest
end_uses last before stays (Kept head owner entry) = use_of owner (has last) ∷ late_uses last before stays entry []
end_uses last before stays (Sent sending) = []

abbrev pub kind_uses : ℕ → ℕ → Stays → Progress → List Use
kind_uses last before stays (On at) = phase_uses last before stays at
kind_uses last before stays (Done end) = end_uses last before stays end

-- a version is entered where there is a window
abbrev pub EntersIf : Stays → Bool → Type 0
EntersIf stays enters = enters ≡ nat_lt 0 stays.window

-- an update is to give up what is to be given up
abbrev pub AsStays : Stays → Keeping → Type 0
AsStays stays keeping = (keeping.oldest ≡ stays.oldest) × (keeping.leaving ≡ leaving_for stays.window stays.entries keeping.enters) × EntersIf stays (is_some keeping.enters)

abbrev pub StaysFor : Stays → Purpose → Type 0
StaysFor stays purpose.Drop = Unit {0}
StaysFor stays (purpose.Publish keeping kept entry) = AsStays stays keeping × (serial_of_entry entry ≡ keeping.enters)
StaysFor stays (purpose.Oldest head kept entry leaving) = EntersIf stays (is_some entry)
StaysFor stays (purpose.Leaves head kept entry leaving) = EntersIf stays (is_some entry)
StaysFor stays (purpose.Sent sending owners) = Unit {0}

abbrev pub StaysIn : Stays → Phase → Type 0
StaysIn stays (phase.Load name) = Unit {0}
StaysIn stays (phase.Look name owner) = Unit {0}
StaysIn stays (phase.Raise name owner) = Unit {0}
StaysIn stays (phase.Note name owner) = Unit {0}
StaysIn stays (phase.Seek owner seeking) = Unit {0}
StaysIn stays (phase.Gain owner seeking) = Unit {0}
StaysIn stays (phase.Probe version keeping) = AsStays stays keeping
StaysIn stays (phase.Prepare version keeping) = AsStays stays keeping
StaysIn stays (phase.Swap keeping) = AsStays stays keeping
StaysIn stays (phase.Settle keeping) = AsStays stays keeping
StaysIn stays (phase.Keep given keeping) = AsStays stays keeping
StaysIn stays (phase.Enter given kept keeping) = AsStays stays keeping × (is_some keeping.enters ≡ true)
StaysIn stays (phase.Release owner for) = StaysFor stays for
StaysIn stays (phase.Bury owner for) = StaysFor stays for
StaysIn stays (phase.Fade owner number for) = StaysFor stays for
StaysIn stays (phase.Reset owner number for) = StaysFor stays for
StaysIn stays (phase.Free owner number for) = StaysFor stays for

abbrev pub StaysAt : Stays → Progress → Type 0
StaysAt stays (On at) = StaysIn stays at
StaysAt stays (Done (Owned name owner number)) = Unit {0}
StaysAt stays (Done (OwnedWeakly name owner number)) = Unit {0}
StaysAt stays (Done (Replied answer)) = Unit {0}
StaysAt stays (Done (NoSlot head)) = Unit {0}
StaysAt stays (Done (Kept head owner entry)) = EntersIf stays (is_some entry)
StaysAt stays (Done (Sent sending)) = Unit {0}

-- whether an update has made its swap
abbrev pub swapped_for : Purpose → ℕ
swapped_for purpose.Drop = 0
swapped_for (purpose.Sent sending owners) = 0
swapped_for (purpose.Publish keeping kept entry) = 1
swapped_for (purpose.Oldest head kept entry leaving) = 1
swapped_for (purpose.Leaves head kept entry leaving) = 1

abbrev pub swapped_in : Phase → ℕ
swapped_in (phase.Load name) = 0
swapped_in (phase.Look name owner) = 0
swapped_in (phase.Seek owner seeking) = 0
swapped_in (phase.Gain owner seeking) = 0
swapped_in (phase.Raise name owner) = 0
swapped_in (phase.Note name owner) = 0
swapped_in (phase.Probe version keeping) = 0
swapped_in (phase.Prepare version keeping) = 0
swapped_in (phase.Swap keeping) = 0
swapped_in (phase.Settle keeping) = 1
swapped_in (phase.Keep given keeping) = 1
swapped_in (phase.Enter given kept keeping) = 1
swapped_in (phase.Release owner for) = swapped_for for
swapped_in (phase.Bury owner for) = swapped_for for
swapped_in (phase.Fade owner number for) = swapped_for for
swapped_in (phase.Reset owner number for) = swapped_for for
swapped_in (phase.Free owner number for) = swapped_for for

abbrev pub swapped_at : Progress → ℕ
swapped_at (On at) = swapped_in at
swapped_at (Done (Owned name owner number)) = 0
swapped_at (Done (OwnedWeakly name owner number)) = 0
swapped_at (Done (Replied answer)) = 0
swapped_at (Done (Sent sending)) = 0
swapped_at (Done (NoSlot head)) = 0
swapped_at (Done (Kept head owner entry)) = 1

-- whether it makes it by this step
abbrev pub swaps_now : Phase → ℕ
swaps_now (phase.Load name) = 0
swaps_now (phase.Look name owner) = 0
swaps_now (phase.Seek owner seeking) = 0
swaps_now (phase.Gain owner seeking) = 0
swaps_now (phase.Raise name owner) = 0
swaps_now (phase.Note name owner) = 0
swaps_now (phase.Probe version keeping) = 0
swaps_now (phase.Prepare version keeping) = 0
swaps_now (phase.Swap keeping) = 1
swaps_now (phase.Settle keeping) = 0
swaps_now (phase.Keep given keeping) = 0
swaps_now (phase.Enter given kept keeping) = 0
swaps_now (phase.Release owner for) = 0
swaps_now (phase.Bury owner for) = 0
swaps_now (phase.Fade owner number for) = 0
swaps_now (phase.Reset owner number for) = 0
swaps_now (phase.Free owner number for) = 0

-- whether a call takes the publisher's steps
abbrev pub publishes_in : Phase → Bool
publishes_in (phase.Load name) = false
publishes_in (phase.Look name owner) = false
publishes_in (phase.Seek owner seeking) = false
publishes_in (phase.Gain owner seeking) = false
publishes_in (phase.Raise name owner) = false
publishes_in (phase.Note name owner) = false
publishes_in (phase.Probe version keeping) = true
publishes_in (phase.Prepare version keeping) = true
publishes_in (phase.Swap keeping) = true
publishes_in (phase.Settle keeping) = true
publishes_in (phase.Keep given keeping) = false
publishes_in (phase.Enter given kept keeping) = false
publishes_in (phase.Release owner for) = false
publishes_in (phase.Bury owner for) = false
publishes_in (phase.Fade owner number for) = false
publishes_in (phase.Reset owner number for) = false
publishes_in (phase.Free owner number for) = false

abbrev pub publishes_at : Progress → Bool
publishes_at (On at) = publishes_in at
publishes_at (Done end) = false

-- whether a call is to put a name into use, or has just brought an owner for it
abbrev pub reserved_at : List ℕ → Progress → ℕ
reserved_at name (On at) = one_if (reserves name at)
reserved_at name (Done (Owned other owner number)) = one_if (bytes_eq other name)
reserved_at name (Done (OwnedWeakly other owner number)) = 0
reserved_at name (Done (Replied answer)) = 0
reserved_at name (Done (Sent sending)) = 0
reserved_at name (Done (NoSlot head)) = 0
reserved_at name (Done (Kept head owner entry)) = 0

-- the same for a weak owner
abbrev pub weak_reserved_at : List ℕ → Progress → ℕ
weak_reserved_at name (On at) = one_if (reserves_weakly name at)
weak_reserved_at name (Done (OwnedWeakly other owner number)) = one_if (bytes_eq other name)
weak_reserved_at name (Done end) = 0

-- whether a call is an update, up to its end
abbrev pub updates_at : Progress → Bool
updates_at (On at) = updates at
updates_at (Done (Owned name owner number)) = false
updates_at (Done (OwnedWeakly name owner number)) = false
updates_at (Done (Replied answer)) = false
updates_at (Done (Sent sending)) = false
updates_at (Done (NoSlot head)) = true
updates_at (Done (Kept head owner entry)) = true

-- what a step of a call makes of what it has in hand, beside others
pub record Went (old new : Zones) (at : Phase) (progress : Progress) (last before : ℕ) (stays : Stays) (rest : List Use) : Type 0 where
  pub in_use : InUse new.owners (kind_uses last before stays progress ++ rest)
  pub still : StaysAt stays progress
  pub swapped : swapped_at progress ≡ swapped_in at + swaps_now at
  pub publisher : publishes_at progress ≡ false → (publishes_in at ≡ true → new.publisher ≡ Probing 0) × (publishes_in at ≡ false → new.publisher ≡ old.publisher)
  pub names : (name : List ℕ) → reserved_at name progress ≤ one_if (reserves name at)
  pub weak_names : (name : List ℕ) → weak_reserved_at name progress ≤ one_if (reserves_weakly name at)
  pub update : updates_at progress ≡ updates at
