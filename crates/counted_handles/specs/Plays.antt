-- What each step tells, by the view of the seat that makes it; nothing is told of a step that the seat doesn't make (own).
use Rattle.std.specs.Prelude.{◌≡◌, true, false, ℕ, [], ◌∷◌, length, Option, Some, None}
use Rattle.cell_core.specs.declared.words.Publisher.{Publisher}
use Rattle.cell_core.specs.declared.words.Publisher.TheVariants.{Probing, Preparing, Swapping, Settling}
use Rattle.counted_handles.specs.declared.view.Publishing.{Publishing}
use Rattle.counted_handles.specs.declared.view.Reading.{Reading}
use Rattle.counted_handles.specs.declared.view.Hold.{Hold}
use Rattle.counted_handles.specs.declared.view.Hold.TheVariants.{Once, Double, Loose, Mixed}
use Rattle.counted_handles.specs.declared.view.View.{View}
use Rattle.counted_handles.specs.declared.view.View.TheVariants.{Begin, Began, Publishes, Reads, Hosts, Has, HasWeakly, Buries, Fades, Resets, Frees, Ends}
use Rattle.counted_handles.specs.Ruled.{stake_of, mark_of, first_version}
use Rattle.counted_handles.specs.Tells.{Sat, Loaded, Newest, Greeted, Released, Tried, Faded, Restored, Freed, Noted, Cloned, Lifted, SeenBy, SeenAlive, Probed, Scanned, Prepared, Swapped, IsSettled, Looked, Swept, Skipped, EndsAt, Shut, IsOpened, Offered}

-- load (own)
abbrev pub LoadTells : {T : Type 0} → (T → Type 0) → (T → T → Type 0) → View T → ℕ → Sat T → Type 0
LoadTells begins follows (Reads r) found me = Loaded begins follows r found me
LoadTells begins follows view found me = ⊥

-- newest (own)
abbrev pub NewestTells : {T : Type 0} → (T → Type 0) → (T → T → Type 0) → View T → ℕ → Sat T → Type 0
NewestTells begins follows (Publishes p) found me = Newest begins follows p found me
NewestTells begins follows view found me = ⊥

-- greet (own)
abbrev pub GreetTells : {T : Type 0} → View T → Sat T → Type 0
GreetTells (Publishes p) me = Greeted p me
GreetTells view me = ⊥

-- release (own)
abbrev pub ReleaseTells : {T : Type 0} → View T → ℕ → Sat T → Type 0
ReleaseTells (Has mark) found me = Released mark found me
ReleaseTells view found me = ⊥

-- bury (own)
abbrev pub BuryTells : {T : Type 0} → (T → Type 0) → (T → T → Type 0) → View T → ℕ → Sat T → Type 0
BuryTells begins follows (Buries slot name) found me = Tried begins follows slot name found me
BuryTells begins follows view found me = ⊥

-- fade (own)
abbrev pub FadeTells : {T : Type 0} → View T → ℕ → Sat T → Type 0
FadeTells (Fades slot spot) found me = Faded slot found me
FadeTells (HasWeakly tie) found me = Faded tie.slot found me
FadeTells view found me = ⊥

-- reset (own)
abbrev pub ResetTells : {T : Type 0} → View T → Sat T → Type 0
ResetTells (Resets slot) me = Restored slot me
ResetTells view me = ⊥

-- free (own)
abbrev pub FreeTells : {T : Type 0} → View T → Sat T → Type 0
FreeTells (Frees slot) me = Freed me
FreeTells view me = ⊥

-- probe, of the slot that is due (own)
abbrev pub ProbeAt : {T : Type 0} → Publishing T → Publisher → ℕ → Sat T → Type 0
ProbeAt p (Probing slot) found me = Probed p slot found me
ProbeAt p (Preparing slot) found me = ⊥
ProbeAt p (Swapping slot) found me = ⊥
ProbeAt p (Settling number slot given) found me = ⊥

abbrev pub ProbeTells : {T : Type 0} → View T → ℕ → Sat T → Type 0
ProbeTells (Publishes p) found me = ProbeAt p p.how found me
ProbeTells view found me = ⊥

-- scan, of the slot that is due (own)
abbrev pub ScanAt : {T : Type 0} → Publishing T → Publisher → ℕ → Sat T → Type 0
ScanAt p (Probing slot) found me = Scanned p slot found me
ScanAt p (Preparing slot) found me = ⊥
ScanAt p (Swapping slot) found me = ⊥
ScanAt p (Settling number slot given) found me = ⊥

abbrev pub ScanTells : {T : Type 0} → View T → ℕ → Sat T → Type 0
ScanTells (Publishes p) found me = ScanAt p p.how found me
ScanTells view found me = ⊥

-- prepare, of the slot whose place the publisher gives back (own)
abbrev pub PrepareTells : {T : Type 0} → Sat T → Sat T → Type 0
PrepareTells {T} (Publishes p, (slot, room) ∷ []) me = (value : T) × (room.value ≡ Some (record { number = length p.published; value = value })) × Prepared p slot value me
PrepareTells before me = ⊥

-- swap, of the value that the publisher has prepared (own)
abbrev pub SwapTells : {T : Type 0} → View T → ℕ → Sat T → Type 0
SwapTells {T} (Publishes p) found me = (value : T) × (p.next ≡ Some value) × Swapped p value found me
SwapTells view found me = ⊥

-- settle, of the version that the publisher is to settle (own)
abbrev pub SettleAt : {T : Type 0} → Publishing T → Publisher → Sat T → Type 0
SettleAt p (Settling number slot given) me = IsSettled p number slot me
SettleAt p (Probing slot) me = ⊥
SettleAt p (Preparing slot) me = ⊥
SettleAt p (Swapping slot) me = ⊥

abbrev pub SettleTells : {T : Type 0} → View T → Sat T → Type 0
SettleTells (Publishes p) me = SettleAt p p.how me
SettleTells view me = ⊥

-- the publisher's look at W (own)
abbrev pub LookTells : {T : Type 0} → View T → ℕ → Sat T → Type 0
LookTells (Publishes p) found me = Looked p found me
LookTells view found me = ⊥

-- looks at S, and at K of the slot in W, while no reader is about (own)
abbrev pub SweepTells : {T : Type 0} → View T → ℕ → Sat T → Type 0
SweepTells (Publishes p) found me = Swept p found me
SweepTells view found me = ⊥

abbrev pub SkipTells : {T : Type 0} → View T → ℕ → Sat T → Type 0
SkipTells (Publishes p) found me = Skipped p found me
SkipTells view found me = ⊥

-- the look at S by which a cell ends, of the slot in W as the publisher saw it (own)
abbrev pub EndOf : {T : Type 0} → Publishing T → Option ℕ → ℕ → Sat T → Type 0
EndOf p (Some word) found me = EndsAt p word found me
EndOf p None found me = ⊥

abbrev pub EndTells : {T : Type 0} → View T → ℕ → Sat T → Type 0
EndTells (Publishes p) found me = EndOf p p.fixed found me
EndTells view found me = ⊥

-- the last version's place is given back, whole (own)
abbrev pub ShutTells : {T : Type 0} → View T → Sat T → Type 0
ShutTells (Ends slot spot) me = Shut me
ShutTells view me = ⊥

-- the first look at W (own)
abbrev pub OpenTells : {T : Type 0} → View T → Sat T → Type 0
OpenTells (Begin value) me = IsOpened value me
OpenTells view me = ⊥

-- the second look at W, by what the first seat gives back (own)
abbrev pub OfferTells : {T : Type 0} → Sat T → Sat T → Type 0
OfferTells {T} (Began spot, (slot, room) ∷ []) me =
    (value : T) × (name : ℕ) × (life : ℕ) × (tally : ℕ) × (room.value ≡ Some (first_version value))
    × (room.stake ≡ stake_of (mark_of name 0 (first_version value) life tally) ∷ []) × Offered value name spot me
OfferTells before me = ⊥

-- note, of the version that the publisher has a share of (own)
abbrev pub NoteOf : {T : Type 0} → Publishing T → Option (Hold T) → Sat T → Type 0
NoteOf p (Some (Once mark)) me = Noted p mark me
NoteOf p (Some (Double mark)) me = ⊥
NoteOf p (Some (Loose tie seen)) me = ⊥
NoteOf p (Some (Mixed mark tie)) me = ⊥
NoteOf p None me = ⊥

abbrev pub NoteTells : {T : Type 0} → View T → Sat T → Type 0
NoteTells (Publishes p) me = NoteOf p p.share me
NoteTells view me = ⊥

-- raise, of what a reader has taken in: of a weak owner only behind a look that has found its version there (own)
abbrev pub RaiseOf : {T : Type 0} → Reading T → Hold T → ℕ → Sat T → Type 0
RaiseOf r (Once mark) found me = Cloned r mark me
RaiseOf r (Loose tie true) found me = Lifted r tie found me
RaiseOf r (Loose tie false) found me = ⊥
RaiseOf r (Double mark) found me = ⊥
RaiseOf r (Mixed mark tie) found me = ⊥

abbrev pub RaiseTells : {T : Type 0} → View T → ℕ → Sat T → Type 0
RaiseTells (Hosts r hold) found me = RaiseOf r hold found me
RaiseTells view found me = ⊥

-- look, of what a reader has taken in (own)
abbrev pub SeeOf : {T : Type 0} → Reading T → Hold T → ℕ → Sat T → Type 0
SeeOf r (Once mark) found me = SeenAlive r mark me
SeeOf r (Loose tie seen) found me = SeenBy r tie found me
SeeOf r (Double mark) found me = ⊥
SeeOf r (Mixed mark tie) found me = ⊥

abbrev pub SeeTells : {T : Type 0} → View T → ℕ → Sat T → Type 0
SeeTells (Hosts r hold) found me = SeeOf r hold found me
SeeTells view found me = ⊥
