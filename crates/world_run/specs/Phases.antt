-- Calls as steps on words: the step that each takes next, and what follows it (own).
use Rattle.std.specs.Prelude.{ℕ, ◌==◌, ◌||◌, Bool, true, false, List, [], ◌∷◌, ◌++◌, bytes_eq, is_some, Option, None, Some, if◌then◌else◌}
use Rattle.cell_core.specs.Words.{State, found_by}
use Rattle.cell_core.specs.declared.words.WordStep.{WordStep}
use Rattle.cell_core.specs.declared.words.WordStep.TheVariants as word
use Rattle.cell_core.specs.declared.words.WordEvent.{WordEvent}
use Rattle.cell_core.specs.declared.words.WordEvent.TheVariants as reported
use Rattle.dns_rdata.specs.declared.numbers.Serial.{Serial}
use Rattle.serve_core.specs.declared.heading.Heading.{Heading}
use Rattle.world_run.specs.declared.phase.Keeping.{Keeping}
use Rattle.world_run.specs.declared.phase.Purpose.{Purpose}
use Rattle.world_run.specs.declared.phase.Purpose.TheVariants as purpose
use Rattle.world_run.specs.declared.phase.Phase.{Phase}
use Rattle.world_run.specs.declared.phase.Phase.TheVariants.{Load, Look, Raise, Note, Probe, Prepare, Swap, Settle, Keep, Enter, Seek, Gain, Release, Bury, Fade, Reset, Free}
use Rattle.world_run.specs.declared.phase.End.TheVariants.{Owned, OwnedWeakly, Replied, NoSlot, Kept, Sent}
use Rattle.world_run.specs.declared.phase.Progress.{Progress}
use Rattle.world_run.specs.declared.phase.Progress.TheVariants.{On, Done}
use Rattle.world_run.specs.declared.entries.Entry.{Entry}
use Rattle.world_run.specs.declared.sending.Sending.{Sending}
use Rattle.world_run.specs.declared.sending.Seeking.{Seeking}
use Rattle.world_run.specs.declared.step.Answer.{Answer}
use Rattle.world_run.specs.declared.step.Answer.TheVariants as answer
use Rattle.world_run.specs.declared.step.StepName.{StepName}
use Rattle.world_run.specs.declared.step.StepName.TheVariants as step
use Rattle.zone_tree.specs.Version.{Version as Numbered}

-- the step on a word that a call takes next (own)
abbrev pub word_step : Phase → WordStep Numbered
word_step (Load name) = word.Load
word_step (Look name owner) = word.Look owner
word_step (Raise name owner) = word.Raise owner
word_step (Note name owner) = word.Note owner
word_step (Probe version keeping) = word.Probe
word_step (Prepare version keeping) = word.Prepare version
word_step (Swap keeping) = word.Swap
word_step (Settle keeping) = word.Settle
word_step (Keep given keeping) = word.Load
word_step (Enter given kept keeping) = word.Note kept
word_step (Seek owner seeking) = word.Look owner
word_step (Gain owner seeking) = word.Raise owner
word_step (Release owner for) = word.Release owner
word_step (Bury owner for) = word.Bury owner
word_step (Fade owner number for) = word.Fade owner
word_step (Reset owner number for) = word.Reset owner
word_step (Free owner number for) = word.Free owner

-- that step's name (own)
abbrev pub step_name : Phase → StepName
step_name (Load name) = step.Load
step_name (Look name owner) = step.Look
step_name (Raise name owner) = step.Raise
step_name (Note name owner) = step.Note
step_name (Probe version keeping) = step.Probe
step_name (Prepare version keeping) = step.Prepare
step_name (Swap keeping) = step.Swap
step_name (Settle keeping) = step.Settle
step_name (Keep given keeping) = step.Load
step_name (Enter given kept keeping) = step.Note
step_name (Seek owner seeking) = step.Look
step_name (Gain owner seeking) = step.Raise
step_name (Release owner for) = step.Release
step_name (Bury owner for) = step.Bury
step_name (Fade owner number for) = step.Fade
step_name (Reset owner number for) = step.Reset
step_name (Free owner number for) = step.Free

-- an update releases the weak owners of the entries that leave the window, one after the other, and ends (own)
abbrev pub leaving_after : Heading → ℕ → Option Entry → List ℕ → Progress
leaving_after heading kept entry [] = Done (Kept heading kept entry)
leaving_after heading kept entry (owner ∷ leaving) = On (Fade owner None (purpose.Leaves heading kept entry leaving))

-- an update whose publication's owner is gone releases the oldest version that is kept, where it has to, and then what leaves the
-- window (own)
abbrev pub oldest_after : Heading → ℕ → Option Entry → List ℕ → Option ℕ → Progress
oldest_after heading kept entry leaving None = leaving_after heading kept entry leaving
oldest_after heading kept entry leaving (Some owner) = On (Release owner (purpose.Oldest heading kept entry leaving))

-- a transfer releases the owners that it has got, one after the other, and ends (own)
abbrev pub sent_after : Sending → List ℕ → Progress
sent_after sending [] = Done (Sent sending)
sent_after sending (owner ∷ owners) = On (Release owner (purpose.Sent sending owners))

-- what follows once an owner is gone; a drop gives this answer (own)
abbrev pub past : Purpose → Answer → Progress
past purpose.Drop answer = Done (Replied answer)
past (purpose.Publish keeping kept entry) answer = oldest_after keeping.heading kept entry keeping.leaving keeping.oldest
past (purpose.Oldest heading kept entry leaving) answer = leaving_after heading kept entry leaving
past (purpose.Leaves heading kept entry leaving) answer = leaving_after heading kept entry leaving
past (purpose.Sent sending owners) answer = sent_after sending owners

-- a load ends with an owner under its name (own)
abbrev pub load_after : List ℕ → WordEvent → Progress
load_after name (reported.Loaded owner number) = Done (Owned name owner number)
load_after name event = On (Load name)

-- a look is followed by a raise, where the version isn't buried; else there is no owner (own)
abbrev pub look_after : List ℕ → ℕ → WordEvent → Progress
look_after name owner reported.Alive = On (Raise name owner)
look_after name owner reported.Dead = Done (Replied answer.Nothing)
look_after name owner event = On (Look name owner)

-- a raise ends with an owner under its name, or with none, where the version is buried (own)
abbrev pub raise_after : List ℕ → ℕ → WordEvent → Progress
raise_after name owner (reported.Raised next number) = Done (Owned name next number)
raise_after name owner reported.Dead = Done (Replied answer.Nothing)
raise_after name owner event = On (Raise name owner)

-- a note ends with a weak owner under its name (own)
abbrev pub note_after : List ℕ → ℕ → WordEvent → Progress
note_after name owner (reported.Noted next number) = Done (OwnedWeakly name next number)
note_after name owner event = On (Note name owner)

-- probes go on up to a slot that is free, or to the last slot, where the update ends (own)
abbrev pub probe_after : Numbered → Keeping → WordEvent → Progress
probe_after version keeping reported.Taken = On (Prepare version keeping)
probe_after version keeping reported.NoSlot = Done (NoSlot keeping.heading)
probe_after version keeping event = On (Probe version keeping)

-- a settle is followed by a load of the version that was published (own)
abbrev pub settle_after : Keeping → WordEvent → Progress
settle_after keeping (reported.Settled owner number) = On (Keep owner keeping)
settle_after keeping event = On (Settle keeping)

-- that load is followed by a note of the version, where it is entered in the window, and then by the release of the owner that the
-- publication returned (own)
abbrev pub keep_after : ℕ → Keeping → WordEvent → Progress
keep_after given keeping (reported.Loaded owner number) =
    if is_some keeping.enters then On (Enter given owner keeping) else On (Release given (purpose.Publish keeping owner None))
keep_after given keeping event = On (Keep given keeping)

-- the window's entry for a version, where it gets one (own)
abbrev pub entry_of : Option Serial → ℕ → ℕ → Option Entry
entry_of None number owner = None
entry_of (Some serial) number owner = Some (record { number = number; serial = serial; owner = owner })

abbrev pub enter_after : ℕ → ℕ → Keeping → WordEvent → Progress
enter_after given kept keeping (reported.Noted owner number) = On (Release given (purpose.Publish keeping kept (entry_of keeping.enters number owner)))
enter_after given kept keeping event = On (Enter given kept keeping)

-- a transfer that has got each version that it asks for, and one that has got one more (own)
abbrev pub completed : Sending → Sending
completed sending = record sending { whole = true }

abbrev pub with_version : Numbered → Sending → Sending
with_version version sending = record sending { got = sending.got ++ version ∷ [] }

-- an upgrade is followed by that of the next entry; after the last, each version was got that the transfer asks for (own)
abbrev pub gained_after : Seeking → List ℕ → Progress
gained_after seeking [] = sent_after (completed seeking.sending) seeking.owners
gained_after seeking (owner ∷ left) = On (Seek owner (record seeking { left = left }))

-- one more owner was got, which finds this version (own)
abbrev pub with_got : ℕ → Numbered → Seeking → Seeking
with_got owner version seeking =
    record { sending = with_version version seeking.sending; left = seeking.left; owners = seeking.owners ++ owner ∷ [] }

abbrev pub got_after : ℕ → Seeking → ℕ → Option Numbered → Progress
got_after owner seeking next None = On (Gain owner seeking)
got_after owner seeking next (Some version) = gained_after (with_got next version seeking) seeking.left

-- a look is followed by a raise, where the version isn't buried; else no further one is got (own)
abbrev pub seek_after : ℕ → Seeking → WordEvent → Progress
seek_after owner seeking reported.Alive = On (Gain owner seeking)
seek_after owner seeking reported.Dead = sent_after seeking.sending seeking.owners
seek_after owner seeking event = On (Seek owner seeking)

-- what follows that raise, by the version that its owner finds in the words (own)
abbrev pub gain_after : State Numbered → ℕ → Seeking → WordEvent → Progress
gain_after words owner seeking (reported.Raised next number) = got_after owner seeking next (found_by words next)
gain_after words owner seeking reported.Dead = sent_after seeking.sending seeking.owners
gain_after words owner seeking event = On (Gain owner seeking)

-- a release is followed by a bury where no share is left (own)
abbrev pub release_after : ℕ → Purpose → WordEvent → Progress
release_after owner for reported.Emptied = On (Bury owner for)
release_after owner for event = past for answer.Left

-- a bury that won is followed by a fade (own)
abbrev pub bury_after : ℕ → Purpose → WordEvent → Progress
bury_after owner for (reported.Buried number) = On (Fade owner (Some number) for)
bury_after owner for event = past for answer.Left

-- the answer of a release that has buried a number, or of the release of a weak owner (own)
abbrev pub gone : Option ℕ → Answer
gone None = answer.Faded
gone (Some number) = answer.Buried number

-- a fade is followed by a reset where no other owner is yet to fade (own)
abbrev pub fade_after : ℕ → Option ℕ → Purpose → WordEvent → Progress
fade_after owner number for reported.Closed = On (Reset owner number for)
fade_after owner number for event = past for (gone number)

-- what follows a call's step, by the words after it and the event that it reported (own)
abbrev pub after : State Numbered → Phase → WordEvent → Progress
after words (Load name) event = load_after name event
after words (Look name owner) event = look_after name owner event
after words (Raise name owner) event = raise_after name owner event
after words (Note name owner) event = note_after name owner event
after words (Probe version keeping) event = probe_after version keeping event
after words (Prepare version keeping) event = On (Swap keeping)
after words (Swap keeping) event = On (Settle keeping)
after words (Settle keeping) event = settle_after keeping event
after words (Keep given keeping) event = keep_after given keeping event
after words (Enter given kept keeping) event = enter_after given kept keeping event
after words (Seek owner seeking) event = seek_after owner seeking event
after words (Gain owner seeking) event = gain_after words owner seeking event
after words (Release owner for) event = release_after owner for event
after words (Bury owner for) event = bury_after owner for event
after words (Fade owner number for) event = fade_after owner number for event
after words (Reset owner number for) event = On (Free owner number for)
after words (Free owner number for) event = past for (gone number)

-- a call reserves a name for a strong owner (own)
abbrev pub reserves : List ℕ → Phase → Bool
reserves name (Load other) = bytes_eq other name
reserves name (Look other owner) = bytes_eq other name
reserves name (Raise other owner) = bytes_eq other name
reserves name phase = false

-- or for a weak one (own)
abbrev pub reserves_weakly : List ℕ → Phase → Bool
reserves_weakly name (Note other owner) = bytes_eq other name
reserves_weakly name phase = false

-- while a transfer releases an owner, it uses the owner of the version that it serves (own)
abbrev pub uses_for : ℕ → Purpose → Bool
uses_for owner (purpose.Sent sending owners) = sending.served == owner
uses_for owner for = false

-- a call uses an owner, so that its name can't be dropped (own)
abbrev pub uses : ℕ → Phase → Bool
uses owner (Look name other) = other == owner
uses owner (Raise name other) = other == owner
uses owner (Note name other) = other == owner
uses owner (Seek other seeking) = seeking.sending.served == owner
uses owner (Gain other seeking) = seeking.sending.served == owner
uses owner (Release other for) = uses_for owner for
uses owner (Bury other for) = uses_for owner for
uses owner (Fade other number for) = uses_for owner for
uses owner (Reset other number for) = uses_for owner for
uses owner (Free other number for) = uses_for owner for
uses owner phase = false

-- whether an owner is released for an update (own)
abbrev pub is_for_update : Purpose → Bool
is_for_update purpose.Drop = false
is_for_update (purpose.Sent sending owners) = false
is_for_update for = true

-- a call is an update (own)
abbrev pub updates : Phase → Bool
updates (Load name) = false
updates (Look name owner) = false
updates (Raise name owner) = false
updates (Note name owner) = false
updates (Seek owner seeking) = false
updates (Gain owner seeking) = false
updates (Release owner for) = is_for_update for
updates (Bury owner for) = is_for_update for
updates (Fade owner number for) = is_for_update for
updates (Reset owner number for) = is_for_update for
updates (Free owner number for) = is_for_update for
updates phase = true

-- a call upgrades entries of the window (own)
abbrev pub seeks : Phase → Bool
seeks (Seek owner seeking) = true
seeks (Gain owner seeking) = true
seeks phase = false

-- a call that is an update or upgrades entries needs the window unchanged (own)
abbrev pub bars : Phase → Bool
bars phase = updates phase || seeks phase
