-- Shows: the cell that words, slots and calls under way show (own).
use Rattle.std.specs.Prelude.{◌≡◌, ℕ, ◌+◌, ◌-◌, ◌<◌, ◌≤◌, Bool, true, false, ◌==◌, if◌then◌else◌, List, [], ◌∷◌, length, ◌⊎◌, Option, None, Some}
use Rattle.std.specs.List.{slice_get, sum_by}
use Rattle.cell_core.specs.Cell.{Cell, CellStep, IsLast, Steps}
use Rattle.cell_core.specs.Words.{State, slots, grants, notes, free_word, dead_word, bulk, word_of, version_in}
use Rattle.cell_core.specs.WordSteps.{Makes}
use Rattle.cell_core.specs.declared.words.Slot.{Slot}
use Rattle.cell_core.specs.declared.words.Owner.{Owner}
use Rattle.cell_core.specs.declared.words.Owner.TheVariants.{Holding, Twice, Weakly, Both, Burying, Fading, Resetting, Freeing, Spent}
use Rattle.cell_core.specs.declared.words.Publisher.{Publisher}
use Rattle.cell_core.specs.declared.words.Publisher.TheVariants.{Probing, Preparing, Swapping, Settling}
use Rattle.cell_core.specs.declared.words.WordStep.{WordStep}
use Rattle.cell_core.specs.declared.words.WordStep.TheVariants.{Load, Swap, Release, Bury, Look, Raise, Note, Fade}
use Rattle.cell_core.specs.declared.words.WordEvent.{WordEvent}
use Rattle.cell_core.specs.declared.words.WordEvent.TheVariants.{Loaded, Swapped, Buried, Dead, Raised, Noted}

-- what is left to do in a slot whose version is buried, and the owner that is to do it, where it is one alone (own)
pub data Rest : Type 0 where
  -- who buried the version hasn't faded
  fading : ℕ → Rest
  -- weak owners alone are left
  outlived : Rest
  -- nobody else is left, and this owner is to set K to 1
  closing : ℕ → Rest
  -- it has done so, and is to give the slot free
  closed : ℕ → Rest

-- the phase of a slot (own)
pub data Phase : Type 0 where
  -- nobody has it
  free : Phase
  -- the publisher has it; whether its version lies there
  taken : Bool → Phase
  -- the version with this number lies there, and isn't buried
  live : ℕ → Phase
  -- the version with this number is buried; so many raises came too late for it, and this is left to do
  dead : ℕ → ℕ → Rest → Phase

-- how many shares of a number an owner has (own)
abbrev pub holds : ℕ → Owner → ℕ
holds j (Holding number place) = if j == number then 1 else 0
holds j (Twice number place) = if j == number then 2 else 0
holds j (Both number place) = if j == number then 1 else 0
holds j (Weakly number place) = 0
holds j (Burying place) = 0
holds j (Fading place) = 0
holds j (Resetting place) = 0
holds j (Freeing place) = 0
holds j Spent = 0

-- how often an owner has a number weakly (own)
abbrev pub has_weakly : ℕ → Owner → ℕ
has_weakly j (Weakly number place) = if j == number then 1 else 0
has_weakly j (Both number place) = if j == number then 1 else 0
has_weakly j (Holding number place) = 0
has_weakly j (Twice number place) = 0
has_weakly j (Burying place) = 0
has_weakly j (Fading place) = 0
has_weakly j (Resetting place) = 0
has_weakly j (Freeing place) = 0
has_weakly j Spent = 0

-- how many shares of a number its owners have, and how many weak owners it has (own)
abbrev pub held : List Owner → ℕ → ℕ
held owners j = sum_by (holds j) owners

abbrev pub weaks : List Owner → ℕ → ℕ
weaks owners j = sum_by (has_weakly j) owners

-- the publisher owns the number that it is to settle (own)
abbrev pub owned_by : Publisher → ℕ → ℕ
owned_by (Settling number place given) j = if j == number then 1 else 0
owned_by (Probing place) j = 0
owned_by (Preparing place) j = 0
owned_by (Swapping place) j = 0

-- the shares of a number that the publisher has between swap and settle (own)
abbrev pub kept_by : Publisher → ℕ → ℕ
kept_by (Settling number place given) j = if j == number then bulk - given else 0
kept_by (Probing place) j = 0
kept_by (Preparing place) j = 0
kept_by (Swapping place) j = 0

-- the shares of a number that the cell has: of the last one those that weren't given out (own)
abbrev pub kept_by_cell : ℕ → ℕ → ℕ → ℕ
kept_by_cell last given j = if j == last then bulk - given else 0

-- how slots and numbers lie: the number published last and the shares given out of it, the slot of each number, and the
-- phase of each slot (own)
pub record Plan : Type 0 where
  pub last : ℕ
  pub given : ℕ
  pub slot : ℕ → ℕ
  pub phase : ℕ → Phase

-- a slot in which a version lies that isn't buried: S is its owners, and the shares that the cell or the publisher has. Where
-- S is 0, some owner is to try a bury (own)
pub record IsLive {T : Type 0} (state : State T) (cell : Cell T) (plan : Plan) (place number : ℕ) (there : Slot T) : Type 0 where
  pub here : plan.slot number ≡ place
  pub unburied : cell.buried number ≡ false
  pub value : T
  pub version : there.version ≡ Some (record { number = number; value = value })
  pub published : slice_get cell.published number ≡ Some value
  pub shares : there.shares ≡ held state.owners number + kept_by_cell plan.last plan.given number + kept_by state.publisher number
  pub due : there.shares ≡ 0 → (owner : ℕ) × (slice_get state.owners owner ≡ Some (Burying place))

-- a slot whose version is buried: S is DEAD and the raises that came too late (own)
pub record IsDead {T : Type 0} (state : State T) (cell : Cell T) (plan : Plan) (place number late : ℕ) (there : Slot T) : Type 0 where
  pub here : plan.slot number ≡ place
  pub buried : cell.buried number ≡ true
  pub shares : there.shares ≡ dead_word + late
  pub few : late ≤ state.granted
  pub version : there.version ≡ None

-- what a slot is, by its phase (own)
abbrev pub SlotIs : {T : Type 0} → State T → Cell T → Plan → ℕ → Phase → Slot T → Type 0
SlotIs state cell plan place free there = (there.shares ≡ free_word) × (there.version ≡ None)
SlotIs state cell plan place (taken false) there =
    (state.publisher ≡ Preparing place) × (there.shares ≡ free_word) × (there.version ≡ None)
SlotIs {T} state cell plan place (taken true) there =
    (state.publisher ≡ Swapping place) × (there.shares ≡ bulk)
    × (value : T) × (there.version ≡ Some (record { number = plan.last + 1; value = value }))
SlotIs state cell plan place (live number) there = IsLive state cell plan place number there
SlotIs state cell plan place (dead number late rest) there = IsDead state cell plan place number late there

-- an owner is there that is to do what is left in a slot (own)
abbrev pub InCharge : List Owner → ℕ → Rest → Type 0
InCharge owners place (fading owner) = slice_get owners owner ≡ Some (Fading place)
InCharge owners place outlived = Unit {0}
InCharge owners place (closing owner) = slice_get owners owner ≡ Some (Resetting place)
InCharge owners place (closed owner) = slice_get owners owner ≡ Some (Freeing place)

-- K of a slot whose version is buried: its weak owners, and 1 more until who buried it has faded; from 0 on there is no weak
-- owner, and the reset makes it 1 (own)
abbrev pub RestWord : ℕ → Rest → ℕ → Type 0
RestWord weak (fading owner) k = k ≡ weak + 1
RestWord weak outlived k = (k ≡ weak) × (0 < weak)
RestWord weak (closing owner) k = (k ≡ 0) × (weak ≡ 0)
RestWord weak (closed owner) k = (k ≡ 1) × (weak ≡ 0)

-- K of a slot, by its phase (own)
abbrev pub WeakWord : List Owner → ℕ → Phase → ℕ → Type 0
WeakWord owners place free k = k ≡ 1
WeakWord owners place (taken prepared) k = k ≡ 1
WeakWord owners place (live number) k = k ≡ weaks owners number + 1
WeakWord owners place (dead number late rest) k = RestWord (weaks owners number) rest k × InCharge owners place rest

-- a number has been published, isn't buried, and lies in this slot (own)
pub record LiesIn {T : Type 0} (cell : Cell T) (plan : Plan) (number place : ℕ) : Type 0 where
  pub published : number < length cell.published
  pub unburied : cell.buried number ≡ false
  pub here : plan.slot number ≡ place

-- the number of the version that a slot has or had last; none where nobody has the slot, or the publisher (own)
abbrev pub number_of : Phase → Option ℕ
number_of free = None
number_of (taken prepared) = None
number_of (live number) = Some number
number_of (dead number late rest) = Some number

-- a slot has a number, or had it last (own)
abbrev pub IsOf : Plan → ℕ → ℕ → Type 0
IsOf plan number place = (place < slots) × (number_of (plan.phase place) ≡ Some number)

-- the version of a slot is buried, and this is left to do there (own)
abbrev pub HasRest : Plan → ℕ → Rest → Type 0
HasRest plan place rest = (number : ℕ) × (late : ℕ) × (place < slots) × (plan.phase place ≡ dead number late rest)

-- what an owner is, by how far it has come (own)
abbrev pub OwnerIs : {T : Type 0} → Cell T → Plan → ℕ → Owner → Type 0
OwnerIs cell plan owner (Holding number place) = LiesIn cell plan number place
OwnerIs cell plan owner (Twice number place) = LiesIn cell plan number place
OwnerIs cell plan owner (Weakly number place) = IsOf plan number place
OwnerIs cell plan owner (Both number place) = LiesIn cell plan number place × IsOf plan number place
OwnerIs cell plan owner (Burying place) = place < slots
OwnerIs cell plan owner (Fading place) = HasRest plan place (fading owner)
OwnerIs cell plan owner (Resetting place) = HasRest plan place (closing owner)
OwnerIs cell plan owner (Freeing place) = HasRest plan place (closed owner)
OwnerIs cell plan owner Spent = Unit {0}

-- what the publisher is, by how far it has come (own)
abbrev pub PublisherIs : {T : Type 0} → Cell T → Plan → ℕ → Publisher → Type 0
PublisherIs cell plan granted (Probing place) = place < slots
PublisherIs cell plan granted (Preparing place) = (place < slots) × (plan.phase place ≡ taken false)
PublisherIs cell plan granted (Swapping place) = (place < slots) × (plan.phase place ≡ taken true)
PublisherIs cell plan granted (Settling number place given) =
    LiesIn cell plan number place × (number < plan.last) × (given ≤ granted)

-- the numbers of a cell: the last one is published, a buried one comes before it, and one that isn't buried lies in its
-- slot (own)
pub record Numbers {T : Type 0} (cell : Cell T) (plan : Plan) : Type 0 where
  pub last : IsLast cell plan.last
  pub buried : (j : ℕ) → cell.buried j ≡ true → j < plan.last
  pub lies : (j : ℕ) → j ≤ plan.last → cell.buried j ≡ false → (plan.slot j < slots) × (plan.phase (plan.slot j) ≡ live j)

-- W is the last number's slot with the shares given out of it, which are few; and few weak owners were made (own)
pub record Given {T : Type 0} (state : State T) (plan : Plan) : Type 0 where
  pub latest : state.latest ≡ word_of (plan.slot plan.last) plan.given
  pub given : plan.given ≤ state.granted
  pub granted : state.granted ≤ grants
  pub noted : state.noted ≤ notes

-- the owners of a number are those who hold it, and the publisher that is to settle it; its weak owners are those who have it
-- weakly; there are few of them (own)
pub record Counts {T : Type 0} (state : State T) (cell : Cell T) (plan : Plan) : Type 0 where
  pub strong : (j : ℕ) → cell.strong j ≡ held state.owners j + owned_by state.publisher j
  pub few : (j : ℕ) → cell.strong j ≤ state.granted + 1
  pub few_of_last : cell.strong plan.last ≤ state.granted
  pub weak : (j : ℕ) → cell.weak j ≡ weaks state.owners j
  pub few_weak : (j : ℕ) → cell.weak j ≤ state.noted

-- each slot is what its phase says, and its K (own)
pub record Table {T : Type 0} (state : State T) (cell : Cell T) (plan : Plan) : Type 0 where
  pub size : length state.table ≡ slots
  pub slot_is : (place : ℕ) (there : Slot T) → slice_get state.table place ≡ Some there → SlotIs state cell plan place (plan.phase place) there
  pub weak_word : (place : ℕ) (there : Slot T) → slice_get state.table place ≡ Some there → WeakWord state.owners place (plan.phase place) there.weak

-- the words, slots and calls under way show a cell (own)
pub record Shows {T : Type 0} (state : State T) (cell : Cell T) : Type 0 where
  pub plan : Plan
  pub numbers : Numbers cell plan
  pub given : Given state plan
  pub counts : Counts state cell plan
  pub table : Table state cell plan
  pub owner_is : (owner : ℕ) (how : Owner) → slice_get state.owners owner ≡ Some how → OwnerIs cell plan owner how
  pub publisher_is : PublisherIs cell plan state.granted state.publisher

-- the value that a swap publishes: it lies in the publisher's slot (own)
abbrev pub IsPublished : {T : Type 0} → State T → T → Type 0
IsPublished {T} state value =
    (place : ℕ) × (number : ℕ) × (state.publisher ≡ Swapping place)
    × (version_in state place ≡ Some (record { number = number; value = value }))

-- a raise gives one strong owner more: of what a strong owner has, or by a weak owner's step up (own)
abbrev pub ShowsRaise : {T : Type 0} → State T → ℕ → ℕ → Cell T → Cell T → Type 0
ShowsRaise state owner number before after =
    (place : ℕ)
    × (((slice_get state.owners owner ≡ Some (Holding number place)) × Steps before (CellStep.Clone number) (Some number) after)
    ⊎ ((slice_get state.owners owner ≡ Some (Weakly number place)) × Steps before (CellStep.Up number) (Some number) after))

-- where DEAD is seen, a weak owner's step up gives none (own)
abbrev pub ShowsDead : {T : Type 0} → State T → ℕ → Cell T → Cell T → Type 0
ShowsDead state owner before after =
    (number : ℕ) × (place : ℕ) × (slice_get state.owners owner ≡ Some (Weakly number place)) × Steps before (CellStep.Up number) None after

-- a weak owner's fade gives it up, and that of who buried a version shows none (own)
abbrev pub ShowsFade : {T : Type 0} → State T → ℕ → Cell T → Cell T → Type 0
ShowsFade state owner before after =
    ((number : ℕ) × (place : ℕ) × (slice_get state.owners owner ≡ Some (Weakly number place)) × Steps before (CellStep.Fade number) None after)
    ⊎ ((place : ℕ) × (slice_get state.owners owner ≡ Some (Fading place)) × (after ≡ before))

-- the step of a cell that a step on a word shows; most show none (own)
abbrev pub ShowsStep : {T : Type 0} → State T → WordStep T → WordEvent → Cell T → Cell T → Type 0
ShowsStep state Load (Loaded owner number) before after = Steps before CellStep.Load (Some number) after
ShowsStep {T} state Swap (Swapped number) before after =
    (value : T) × IsPublished state value × Steps before (CellStep.Publish value) (Some number) after
ShowsStep state (Release owner) event before after =
    (number : ℕ) × (place : ℕ) × (slice_get state.owners owner ≡ Some (Holding number place)) × Steps before (CellStep.Drop number) None after
ShowsStep state (Bury owner) (Buried number) before after = Steps before (CellStep.Bury number) None after
ShowsStep state (Look owner) Dead before after = ShowsDead state owner before after
ShowsStep state (Raise owner) Dead before after = ShowsDead state owner before after
ShowsStep state (Raise owner) (Raised next number) before after = ShowsRaise state owner number before after
ShowsStep state (Note owner) (Noted next number) before after = Steps before (CellStep.Down number) (Some number) after
ShowsStep state (Fade owner) event before after = ShowsFade state owner before after
ShowsStep state step event before after = after ≡ before

-- a run: steps on words made in turn, each with what it told (own)
abbrev pub WordRuns : {T : Type 0} → State T → List (WordStep T × WordEvent) → State T → Type 0
WordRuns before [] after = after ≡ before
WordRuns {T} before ((step, event) ∷ more) after = (between : State T) × Makes before step event between × WordRuns between more after

-- no call is under way, and of the numbers before the last those from one on are owned, and no others (own)
pub record AtRest {T : Type 0} (state : State T) (from last : ℕ) : Type 0 where
  pub publisher : state.publisher ≡ Probing 0
  pub within : from ≤ last
  pub owners : (owner : ℕ) (how : Owner) → slice_get state.owners owner ≡ Some how → (how ≡ Spent) ⊎ ((number : ℕ) × (place : ℕ) × (from ≤ number) × (how ≡ Holding number place))
  pub owned : (number : ℕ) → from ≤ number → number < last → (owner : ℕ) × (place : ℕ) × (slice_get state.owners owner ≡ Some (Holding number place))
