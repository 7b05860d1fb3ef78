-- A call that begins comes to its end, once it has taken its first step; a line that isn't enabled changes nothing.
use Rattle.std.proofs.Common.{◌≡◌, refl, sym, ap, ◌∙◌, subst, ℕ, ◌+◌, ◌-◌, ◌^◌, ◌<◌, ◌≤◌, Bool, true, false, inl, inr, List, [], ◌∷◌, ◌++◌, length, arith, Option, Some, None}
use Rattle.std.specs.Prelude.{◌==◌, ◌&&◌, is_some, nat_lt, ◌||◌, not}
use Rattle.std.specs.List.{slice_get}
use Rattle.std.specs.Option.{option_map, option_and_then}
use Rattle.std.specs.Prelude.{if◌then◌else◌}
use Rattle.std.proofs.lemmas.Bool.{cases_Bool, ltb-true}
use Rattle.cell_core.specs.Cell.{Cell}
use Rattle.cell_core.specs.Shows.{Shows}
use Rattle.cell_core.specs.Words.{dead_word}
use Rattle.cell_core.specs.WordSteps.{Makes}
use Rattle.cell_core.specs.declared.words.Owner.{Owner}
use Rattle.cell_core.specs.declared.words.Owner.TheVariants.{Holding, Twice, Weakly, Both, Burying, Fading, Resetting, Freeing, Spent}
use Rattle.cell_core.specs.declared.words.WordEvent.{WordEvent}
use Rattle.cell_core.specs.declared.words.WordEvent.TheVariants as reported
use Rattle.cell_core.specs.declared.words.WordStep.TheVariants as word
use Rattle.cell_core.specs.Words.{grants, place_of, version_in, found_last}
use Rattle.cell_core.specs.declared.words.Version.{Version}
use Rattle.dns_rdata.specs.Record.{Record}
use Rattle.serve_core.specs.declared.heading.Heading.{Heading}
use Rattle.dns_message.specs.declared.query.Parsed.{Parsed}
use Rattle.dns_message.specs.Request.{reads}
use Rattle.world_run.specs.Judgements.{asks_update, judged}
use Rattle.zone_tree.specs.Version.{Version as Numbered}
use Rattle.dns_message.specs.declared.query.Parsed.TheVariants as parsed
use Rattle.dns_message.specs.declared.query.Query.{Query as QueryAsked}
use Rattle.serve_core.specs.declared.transport.Transport.TheVariants.{Udp, Tcp}
use Rattle.serve_core.specs.Transfers.{peer_over, is_permitted}
use Rattle.world_run.specs.World.{asks_sent, transfer_asked, transfer_said, transfer_start}
use Rattle.world_run.specs.declared.judged.Judged.{Judged}
use Rattle.world_run.specs.declared.judged.Judged.TheVariants as judgement
use Rattle.world_run.specs.declared.phase.Phase.{Phase}
use Rattle.world_run.specs.declared.phase.Phase.TheVariants as phase
use Rattle.world_run.specs.declared.phase.Purpose.TheVariants as purpose
use Rattle.world_run.specs.declared.phase.Progress.{Progress}
use Rattle.world_run.specs.declared.phase.Progress.TheVariants.{On, Done}
use Rattle.world_run.specs.declared.calls.UnderWay.{UnderWay}
use Rattle.world_run.specs.declared.start.Start.{Start}
use Rattle.world_run.specs.declared.start.Start.TheVariants.{Refused, Answers, Takes}
use Rattle.world_run.specs.declared.step.Answer.{Answer}
use Rattle.world_run.specs.declared.step.Call.{Call}
use Rattle.world_run.specs.declared.step.Call.TheVariants.{Load, Drop, Copy, Weak, Fade, Up, Ask, Transfer, Update}
use Rattle.world_run.specs.declared.step.WorldReply.{WorldReply}
use Rattle.world_run.specs.declared.step.WorldReply.TheVariants.{Answered, NotEnabled}
use Rattle.world_run.specs.declared.step.WorldStep.{WorldStep}
use Rattle.world_run.specs.declared.step.WorldStep.TheVariants.{Whole, Begin, Next}
use Rattle.world_run.specs.Phases.{word_step}
use Rattle.world_run.specs.World.{fade_start, copy_start, weak_start, up_start, is_used, is_taken_weakly}
use Rattle.world_run.specs.World.{World, owner_of, call_of, is_taken, zone_of, drop_start, ask_said, ask_start, is_held, publication_start, update_start, oldest_kept, start, answer_at, step_once, steps_up_to, most_steps, is_full, all_made, whole, begin_call, begin_under, stepped, next, turn}
use Rattle.world_laws.proofs.RunLemmas.{one_step}
use Rattle.world_run.proofs.StepLemmas.{stays_there, goes_further}
use Rattle.cell_core.proofs.WeakShows.{to_fade}
use Rattle.std.specs.Prelude.{filter, nat_le}
use Rattle.std.proofs.lemmas.Bool.{leb-true}
use Rattle.std.proofs.lemmas.List.{length-map}
use Rattle.cell_core.specs.Words.{found_by, notes}
use Rattle.dns_rdata.specs.declared.numbers.Serial.{Serial}
use Rattle.transfer_core.specs.Window.{fits}
use Rattle.zone_tree.specs.Version.{zone_serial}
use Rattle.world_run.specs.Entries.{serials_in, owners_in, leaving, leaving_for, enters, behind, later}
use Rattle.world_run.specs.declared.entries.Entry.{Entry}
use Rattle.world_run.specs.declared.sending.Seeking.{Seeking}
use Rattle.world_run.specs.declared.sending.Sending.{Sending}
use Rattle.world_run.specs.World.{seek_start, transfer_of, none_got, is_barred, can_enter}
use Rattle.world_laws.proofs.EndLemmas.{Zones, IsDone, IsApart, AreAll, CanEnd, IsHolding, went, done_by, drop_passes, release_ends, fade_ends, probe_ends}
use Rattle.world_laws.proofs.SeekLemmas.{AreWeak, seek_ends}

-- a call that stays where it is has changed nothing
abbrev pub Unchanged : Zones → Progress × Zones → Type 0
Unchanged words (On at, after_steps) = after_steps ≡ words
Unchanged words (Done end, after_steps) = Unit {0}

done_unchanged : (words : Zones) (came : Progress × Zones) → IsDone came.0 → Unchanged words came
done_unchanged words (On at, after_steps) is = absurd is
done_unchanged words (Done end, after_steps) is = tt

-- a transfer can be carried to its end
pub record CanSeek (words : Zones) (owner : ℕ) (seeking : Seeking) : Type 0 where
  pub weak : AreWeak words.owners (owner ∷ seeking.left)
  pub none_got : seeking.owners ≡ []
  pub few : length (owner ∷ seeking.left) ≤ 16
  pub shares : words.granted + length (owner ∷ seeking.left) ≤ grants

-- calls begin so, by their kind
abbrev pub IsOpening : Phase → Type 0
IsOpening (phase.Load name) = Unit {0}
IsOpening (phase.Look name owner) = Unit {0}
IsOpening (phase.Raise name owner) = Unit {0}
IsOpening (phase.Note name owner) = Unit {0}
IsOpening (phase.Seek owner seeking) = Unit {0}
IsOpening (phase.Gain owner seeking) = ⊥
IsOpening (phase.Probe version keeping) = Unit {0}
IsOpening (phase.Prepare version keeping) = ⊥
IsOpening (phase.Swap keeping) = ⊥
IsOpening (phase.Settle keeping) = ⊥
IsOpening (phase.Keep given keeping) = ⊥
IsOpening (phase.Enter given kept keeping) = ⊥
IsOpening (phase.Release owner purpose.Drop) = Unit {0}
IsOpening (phase.Release owner (purpose.Publish keeping kept entry)) = ⊥
IsOpening (phase.Release owner (purpose.Oldest head kept entry leaving)) = ⊥
IsOpening (phase.Release owner (purpose.Leaves head kept entry leaving)) = ⊥
IsOpening (phase.Release owner (purpose.Sent sending owners)) = ⊥
IsOpening (phase.Bury owner for) = ⊥
IsOpening (phase.Fade owner None purpose.Drop) = Unit {0}
IsOpening (phase.Fade owner None (purpose.Publish keeping kept entry)) = ⊥
IsOpening (phase.Fade owner None (purpose.Oldest head kept entry leaving)) = ⊥
IsOpening (phase.Fade owner None (purpose.Leaves head kept entry leaving)) = ⊥
IsOpening (phase.Fade owner None (purpose.Sent sending owners)) = ⊥
IsOpening (phase.Fade owner (Some number) for) = ⊥
IsOpening (phase.Reset owner number for) = ⊥
IsOpening (phase.Free owner number for) = ⊥

-- and can be carried to their end
abbrev pub IsFirst : Zones → Phase → Type 0
IsFirst words (phase.Load name) = Unit {0}
IsFirst words (phase.Look name owner) = Unit {0}
IsFirst words (phase.Raise name owner) = Unit {0}
IsFirst words (phase.Note name owner) = Unit {0}
IsFirst words (phase.Seek owner seeking) = CanSeek words owner seeking
IsFirst words (phase.Gain owner seeking) = ⊥
IsFirst words (phase.Probe version keeping) = CanEnd words keeping
IsFirst words (phase.Prepare version keeping) = ⊥
IsFirst words (phase.Swap keeping) = ⊥
IsFirst words (phase.Settle keeping) = ⊥
IsFirst words (phase.Keep given keeping) = ⊥
IsFirst words (phase.Enter given kept keeping) = ⊥
IsFirst words (phase.Release owner purpose.Drop) = Unit {0}
IsFirst words (phase.Release owner (purpose.Publish keeping kept entry)) = ⊥
IsFirst words (phase.Release owner (purpose.Oldest head kept entry leaving)) = ⊥
IsFirst words (phase.Release owner (purpose.Leaves head kept entry leaving)) = ⊥
IsFirst words (phase.Release owner (purpose.Sent sending owners)) = ⊥
IsFirst words (phase.Bury owner for) = ⊥
IsFirst words (phase.Fade owner None purpose.Drop) = Unit {0}
IsFirst words (phase.Fade owner None (purpose.Publish keeping kept entry)) = ⊥
IsFirst words (phase.Fade owner None (purpose.Oldest head kept entry leaving)) = ⊥
IsFirst words (phase.Fade owner None (purpose.Leaves head kept entry leaving)) = ⊥
IsFirst words (phase.Fade owner None (purpose.Sent sending owners)) = ⊥
IsFirst words (phase.Fade owner (Some number) for) = ⊥
IsFirst words (phase.Reset owner number for) = ⊥
IsFirst words (phase.Free owner number for) = ⊥

-- it begins with a probe
abbrev pub IsProbe : Phase → Type 0
IsProbe (phase.Probe version keeping) = Unit {0}
IsProbe at = ⊥

load_done : (left : ℕ) (words new : Zones) (name : List ℕ) (event : WordEvent) → 1 ≤ left → Makes words word.Load event new → IsDone (steps_up_to left words (phase.Load name)).0
load_done left words new name event enough (number, found, few, told_is, new_is) =
    let made_here : Makes words word.Load (reported.Loaded (length words.owners) number) new = (number, found, few, refl, new_is) in
    done_by left words new (phase.Load name) _ (omega arith) (went words new (phase.Load name) (reported.Loaded (length words.owners) number) _ made_here refl) tt

raise_done : (left : ℕ) (words new : Zones) (name : List ℕ) (from : ℕ) (event : WordEvent) → 1 ≤ left → Makes words (word.Raise from) event new → IsDone (steps_up_to left words (phase.Raise name from)).0
raise_done left words new name from event enough (number, place, there, own, found, room, m) =
    elim (cases_Bool (nat_lt there.shares dead_word)) [
      | inl little ↦ (
          let h = rw little at m in
          let made_here : Makes words (word.Raise from) (reported.Raised (length words.owners) number) new = (number, place, there, own, found, room, rw little (refl, h.1)) in
          done_by left words new (phase.Raise name from) _ (omega (arith, enough)) (went words new (phase.Raise name from) (reported.Raised (length words.owners) number) _ made_here refl) tt
          )
      | inr great ↦ (
          let h = rw great at m in
          let made_here : Makes words (word.Raise from) reported.Dead new = (number, place, there, own, found, room, rw great (refl, h.1)) in
          done_by left words new (phase.Raise name from) _ (omega (arith, enough)) (went words new (phase.Raise name from) reported.Dead _ made_here refl) tt
          )
    ]

note_done : (left : ℕ) (words new : Zones) (name : List ℕ) (from : ℕ) (event : WordEvent) → 1 ≤ left → Makes words (word.Note from) event new → IsDone (steps_up_to left words (phase.Note name from)).0
note_done left words new name from event enough (number, place, there, use_of, found, room, told_is, new_is) =
    let made_here : Makes words (word.Note from) (reported.Noted (length words.owners) number) new = (number, place, there, use_of, found, room, refl, new_is) in
    done_by left words new (phase.Note name from) _ (omega (arith, enough)) (went words new (phase.Note name from) (reported.Noted (length words.owners) number) _ made_here refl) tt

-- a weak owner's release
weak_done : (words new : Zones) (cell : Cell Numbered) (owner : ℕ) (event : WordEvent) → Shows words cell → Makes words (word.Fade owner) event new → IsDone (steps_up_to most_steps words (phase.Fade owner None purpose.Drop)).0
weak_done words new cell owner event s (place, there, fades, found, m) =
    elim (to_fade words owner place fades) [
      | inl use_of ↦ fade_ends most_steps words cell owner place (Weakly use_of.0 place) None purpose.Drop (drop_passes owner) (omega arith) s use_of.1 refl tt
      | inr use_of ↦ fade_ends most_steps words cell owner place (Fading place) None purpose.Drop (drop_passes owner) (omega arith) s use_of refl tt
    ]

-- a raise behind a look is made, or nothing has changed
raise_then : (left : ℕ) (words : Zones) (name : List ℕ) (from : ℕ) (o : Option (Progress × Zones)) → 1 ≤ left → step_once words (phase.Raise name from) ≡ o → Unchanged words (steps_up_to left words (phase.Raise name from))
raise_then left words name from None enough e = subst (λ (c : Progress × Zones). Unchanged words c) (sym (stays_there left words (phase.Raise name from) (omega (arith, enough)) e)) refl
raise_then left words name from (Some came) enough e =
    let one = one_step words came.1 (phase.Raise name from) came.0 e in
    done_unchanged words (steps_up_to left words (phase.Raise name from)) (raise_done left words came.1 name from one.event enough one.makes)

look_then : (words new : Zones) (name : List ℕ) (from : ℕ) (event : WordEvent) → Makes words (word.Look from) event new → Unchanged words (steps_up_to most_steps words (phase.Look name from))
look_then words new name from event (number, place, there, own, found, m) =
    elim (cases_Bool (nat_lt there.shares dead_word)) [
      | inl little ↦ (
          let made_here : Makes words (word.Look from) reported.Alive words = (number, place, there, own, found, rw little (refl, refl)) in
          let goes = goes_further most_steps words words (phase.Look name from) (phase.Raise name from) (omega arith) (went words words (phase.Look name from) reported.Alive (On (phase.Raise name from)) made_here refl) in
          subst (λ (c : Progress × Zones). Unchanged words c) (sym goes) (raise_then (most_steps - 1) words name from (step_once words (phase.Raise name from)) (omega arith) refl)
          )
      | inr great ↦ (
          let made_here : Makes words (word.Look from) reported.Dead words = (number, place, there, own, found, rw great (refl, refl)) in
          done_unchanged words (steps_up_to most_steps words (phase.Look name from))
          (done_by most_steps words words (phase.Look name from) _ (omega arith) (went words words (phase.Look name from) reported.Dead _ made_here refl) tt)
          )
    ]

seek_done : (words : Zones) (cell : Cell Numbered) (owner : ℕ) (seeking : Seeking) → CanSeek words owner seeking → Shows words cell → IsDone (steps_up_to most_steps words (phase.Seek owner seeking)).0
seek_done words cell owner seeking can s =
    let none : length seeking.owners ≡ 0 = ap length can.none_got in
    let few = can.few in
    seek_ends seeking.left most_steps words cell owner seeking refl (omega (arith, none, few)) s can.weak (subst (λ os. AreAll Holding words.owners os) (sym can.none_got) tt) (let room = can.shares in omega (arith, room))

-- a call that begins and takes its first step comes to its end, or has changed nothing
first_then : (words new : Zones) (cell : Cell Numbered) (at : Phase) (event : WordEvent) → IsFirst words at → Shows words cell → (IsProbe at → length cell.published < 2 ^ 64) → Makes words (word_step at) event new → Unchanged words (steps_up_to most_steps words at)
first_then words new cell (phase.Load name) event is s few m = done_unchanged words (steps_up_to most_steps words (phase.Load name)) (load_done most_steps words new name event (omega arith) m)
first_then words new cell (phase.Look name owner) event is s few m = look_then words new name owner event m
first_then words new cell (phase.Raise name owner) event is s few m = done_unchanged words (steps_up_to most_steps words (phase.Raise name owner)) (raise_done most_steps words new name owner event (omega arith) m)
first_then words new cell (phase.Note name owner) event is s few m = done_unchanged words (steps_up_to most_steps words (phase.Note name owner)) (note_done most_steps words new name owner event (omega arith) m)
first_then words new cell (phase.Seek owner seeking) event is s few m = done_unchanged words (steps_up_to most_steps words (phase.Seek owner seeking)) (seek_done words cell owner seeking is s)
first_then words new cell (phase.Gain owner seeking) event is s few m = absurd is
first_then words new cell (phase.Probe version keeping) event is s few (place, there, at, found, m) =
    done_unchanged words (steps_up_to most_steps words (phase.Probe version keeping)) (probe_ends most_steps words cell version keeping place (omega arith) s is (few tt) at)
first_then words new cell (phase.Prepare version keeping) event is s few m = absurd is
first_then words new cell (phase.Swap keeping) event is s few m = absurd is
first_then words new cell (phase.Settle keeping) event is s few m = absurd is
first_then words new cell (phase.Keep given keeping) event is s few m = absurd is
first_then words new cell (phase.Enter given kept keeping) event is s few m = absurd is
first_then words new cell (phase.Release owner purpose.Drop) event is s few (number, place, there, use_of, found, m) =
    done_unchanged words (steps_up_to most_steps words (phase.Release owner purpose.Drop)) (release_ends most_steps words cell owner number place purpose.Drop (drop_passes owner) (omega arith) s use_of tt)
first_then words new cell (phase.Release owner (purpose.Publish keeping kept entry)) event is s few m = absurd is
first_then words new cell (phase.Release owner (purpose.Oldest head kept entry leaving)) event is s few m = absurd is
first_then words new cell (phase.Release owner (purpose.Leaves head kept entry leaving)) event is s few m = absurd is
first_then words new cell (phase.Release owner (purpose.Sent sending owners)) event is s few m = absurd is
first_then words new cell (phase.Bury owner for) event is s few m = absurd is
first_then words new cell (phase.Fade owner None purpose.Drop) event is s few m = done_unchanged words (steps_up_to most_steps words (phase.Fade owner None purpose.Drop)) (weak_done words new cell owner event s m)
first_then words new cell (phase.Fade owner None (purpose.Publish keeping kept entry)) event is s few m = absurd is
first_then words new cell (phase.Fade owner None (purpose.Oldest head kept entry leaving)) event is s few m = absurd is
first_then words new cell (phase.Fade owner None (purpose.Leaves head kept entry leaving)) event is s few m = absurd is
first_then words new cell (phase.Fade owner None (purpose.Sent sending owners)) event is s few m = absurd is
first_then words new cell (phase.Fade owner (Some number) for) event is s few m = absurd is
first_then words new cell (phase.Reset owner number for) event is s few m = absurd is
first_then words new cell (phase.Free owner number for) event is s few m = absurd is

pub first_by : (words : Zones) (cell : Cell Numbered) (at : Phase) (o : Option (Progress × Zones)) → step_once words at ≡ o → IsFirst words at → Shows words cell → (IsProbe at → length cell.published < 2 ^ 64) → Unchanged words (steps_up_to most_steps words at)
first_by words cell at None e is s few = subst (λ (c : Progress × Zones). Unchanged words c) (sym (stays_there most_steps words at (omega arith) e)) refl
first_by words cell at (Some came) e is s few =
    let one = one_step words came.1 at came.0 e in
    first_then words came.1 cell at one.event is s few one.makes

-- calls begin so
abbrev pub FirstOf : Zones → Start → Type 0
FirstOf words Refused = Unit {0}
FirstOf words (Answers answer) = Unit {0}
FirstOf words (Takes at) = IsFirst words at

first_if : (words : Zones) (test : Bool) (one two : Start) → (test ≡ true → FirstOf words one) → (test ≡ false → FirstOf words two) → FirstOf words (if test then one else two)
first_if words true one two a b = a refl
first_if words false one two a b = b refl

drop_first : (words : Zones) (calls : List UnderWay) (owner : Option ℕ) → FirstOf words (drop_start calls owner)
drop_first words calls None = tt
drop_first words calls (Some owner) = first_if words (is_used calls owner) _ _ (λ e. tt) (λ e. tt)

fade_first : (words : Zones) (calls : List UnderWay) (owner : Option ℕ) → FirstOf words (fade_start calls owner)
fade_first words calls None = tt
fade_first words calls (Some owner) = first_if words (is_used calls owner) _ _ (λ e. tt) (λ e. tt)

copy_first : (words : Zones) (name : List ℕ) (owner : Option ℕ) → FirstOf words (copy_start name owner)
copy_first words name None = tt
copy_first words name (Some owner) = tt

weak_first : (words : Zones) (name : List ℕ) (owner : Option ℕ) → FirstOf words (weak_start name owner)
weak_first words name None = tt
weak_first words name (Some owner) = tt

up_first : (words : Zones) (calls : List UnderWay) (name : List ℕ) (owner : Option ℕ) → FirstOf words (up_start calls name owner)
up_first words calls name None = tt
up_first words calls name (Some owner) = first_if words (is_used calls owner) _ _ (λ e. tt) (λ e. tt)

said_first : (words : Zones) (zone : List Record) (said : Parsed) → FirstOf words (ask_said zone said)
said_first words zone said = first_if words (asks_update said || asks_sent Udp zone said) _ _ (λ e. tt) (λ e. tt)

ask_first : (words : Zones) (zone : Option (List Record)) (request : List ℕ) → FirstOf words (ask_start zone request)
ask_first words None request = tt
ask_first words (Some zone) request = said_first words zone (reads request)

-- the window's weak owners, while the window isn't in the hand of an update
pub record EntriesOk (world : World) : Type 0 where
  pub weak : AreAll Weakly world.words.owners (owners_in world.entries)
  pub few : length world.entries ≤ 16

abbrev pub EntriesIf : World → Type 0
EntriesIf world = is_barred world.calls ≡ false → EntriesOk world

weak_of_all : (owners : List Owner) (os : List ℕ) → AreAll Weakly owners os → AreWeak owners os
weak_of_all owners [] all = tt
weak_of_all owners (o ∷ os) all = (all.0, weak_of_all owners os all.2)

weak_up_to : (owners : List Owner) (number : ℕ) (entries : List Entry) → AreWeak owners (owners_in entries) → AreWeak owners (owners_in (filter (λ (entry : Entry). nat_le entry.number number) entries)) × (length (filter (λ (entry : Entry). nat_le entry.number number) entries) ≤ length entries)
weak_up_to owners number [] weak = (tt, omega arith)
weak_up_to owners number (e ∷ entries) weak =
    let more = weak_up_to owners number entries weak.1 in
    let less = more.1 in
    elim (cases_Bool (nat_le e.number number)) [
      | inl up ↦ rw up ((weak.0, more.0), omega (arith, less))
      | inr behind_it ↦ rw behind_it (more.0, omega (arith, less))
    ]

weak_behind : (owners : List Owner) (serial : ℕ) (entries : List Entry) → AreWeak owners (owners_in entries) → AreWeak owners (behind serial entries) × (length (behind serial entries) ≤ length entries)
weak_behind owners serial [] weak = (tt, omega arith)
weak_behind owners serial (e ∷ entries) weak =
    let more = weak_behind owners serial entries weak.1 in
    let less = more.1 in
    let same : length (owners_in entries) ≡ length entries = length-map entries (λ (entry : Entry). entry.owner) in
    elim (cases_Bool (e.serial.0 == serial)) [
      | inl here ↦ rw here (weak.1, omega (arith, same))
      | inr other ↦ rw other (more.0, omega (arith, less))
    ]

weak_later : (world : World) (number : ℕ) (serial : Serial) → EntriesOk world → AreWeak world.words.owners (later number (Some serial) world.entries) × (length (later number (Some serial) world.entries) ≤ 16)
weak_later world number serial ok =
    let up = weak_up_to world.words.owners number world.entries (weak_of_all world.words.owners (owners_in world.entries) ok.weak) in
    let it = weak_behind world.words.owners serial.0 (filter (λ (entry : Entry). nat_le entry.number number) world.entries) up.0 in
    let one = it.1 in
    let two = up.1 in
    let few = ok.few in
    (it.0, omega (arith, one, two, few))

seek_first : (words : Zones) (sending : Sending) (owners : List ℕ) → AreWeak words.owners owners → length owners ≤ 16 → FirstOf words (seek_start words sending owners)
seek_first words sending [] weak few = tt
seek_first words sending (owner ∷ left) weak few =
    first_if words (nat_le (words.granted + length (owner ∷ left)) grants) _ _ (λ e. record { weak = weak; none_got = refl; few = few; shares = leb-true (words.granted + length (owner ∷ left)) grants e }) (λ e. tt)

asked_first : (world : World) (sending : Sending) (query : QueryAsked) (serial : Option Serial) → query.serial ≡ serial → EntriesIf world → FirstOf world.words (transfer_asked world sending query)
asked_first world sending query None e ok =
    first_if world.words (not (is_permitted sending.version.zone (peer_over Tcp true) query)) _ _ (λ f. tt)
    (λ f. first_if world.words (is_some query.serial && is_barred world.calls) _ _ (λ g. tt) (λ g. rw e tt))
asked_first world sending query (Some serial) e ok =
    first_if world.words (not (is_permitted sending.version.zone (peer_over Tcp true) query)) _ _ (λ f. tt)
    (λ f. first_if world.words (is_some query.serial && is_barred world.calls) _ _ (λ g. tt)
    (λ g. (
    let free : is_barred world.calls ≡ false = rw e at g in
    let it = weak_later world sending.version.number serial (ok free) in
    rw e (seek_first world.words sending (later sending.version.number (Some serial) world.entries) it.0 it.1)
    )))

sent_first : (world : World) (sending : Sending) (said : Parsed) → EntriesIf world → FirstOf world.words (transfer_said world sending said)
sent_first world sending parsed.Silent ok = tt
sent_first world sending (parsed.Fault head code) ok = tt
sent_first world sending (parsed.BadOpt head question code dnssec_ok) ok = tt
sent_first world sending (parsed.Query query) ok = asked_first world sending query query.serial refl ok
sent_first world sending (parsed.Update update) ok = tt
sent_first world sending (parsed.NoMemory head) ok = tt

of_first : (world : World) (owner : ℕ) (request : List ℕ) (version : Option Numbered) → EntriesIf world → FirstOf world.words (transfer_of world owner request version)
of_first world owner request None ok = tt
of_first world owner request (Some version) ok = sent_first world (none_got owner version request) (reads request) ok

transfer_first : (world : World) (request : List ℕ) (owner : Option ℕ) → EntriesIf world → FirstOf world.words (transfer_start world request owner)
transfer_first world request None ok = tt
transfer_first world request (Some owner) ok = of_first world owner request (found_by world.words owner) ok

-- an owner that finds a version holds one
holding_by : (words : Zones) (owner : ℕ) (o : Option Owner) → slice_get words.owners owner ≡ o
    → is_some (option_map (λ (v : Version Numbered). v.value) (option_and_then (version_in words) (option_and_then place_of o))) ≡ true
    → (number : ℕ) × (place : ℕ) × (slice_get words.owners owner ≡ Some (Holding number place))
holding_by words owner None e found = absurd (let wrong = found in cc)
holding_by words owner (Some (Holding number place)) e found = (number, place, e)
holding_by words owner (Some (Burying place)) e found = absurd (let wrong = found in cc)
holding_by words owner (Some (Twice number place)) e found = absurd (let wrong = found in cc)
holding_by words owner (Some (Weakly number place)) e found = absurd (let wrong = found in cc)
holding_by words owner (Some (Both number place)) e found = absurd (let wrong = found in cc)
holding_by words owner (Some (Fading place)) e found = absurd (let wrong = found in cc)
holding_by words owner (Some (Resetting place)) e found = absurd (let wrong = found in cc)
holding_by words owner (Some (Freeing place)) e found = absurd (let wrong = found in cc)
holding_by words owner (Some Spent) e found = absurd (let wrong = found in cc)

holding : (words : Zones) (oldest : Option ℕ) → is_held words oldest ≡ true → IsHolding words.owners oldest
holding words None held = tt
holding words (Some owner) held = holding_by words owner (slice_get words.owners owner) refl held

both : (a b : Bool) → (a && b) ≡ true → (a ≡ true) × (b ≡ true)
both true b e = (refl, e)
both false b e = absurd (let wrong = e in cc)

-- those that leave the window are weak, and each is another one
apart_leaving : (owner size serial : ℕ) (entries : List Entry) → IsApart owner (owners_in entries) → IsApart owner (leaving size entries serial)
apart_leaving owner size serial [] apart = tt
apart_leaving owner size serial (e ∷ entries) apart =
    elim (cases_Bool (fits size (serials_in (e ∷ entries) ++ serial ∷ []))) [
      | inl all ↦ rw all tt
      | inr some ↦ rw some (apart.0, apart_leaving owner size serial entries apart.1)
    ]

all_leaving : (owners : List Owner) (size serial : ℕ) (entries : List Entry) → AreAll Weakly owners (owners_in entries) → AreAll Weakly owners (leaving size entries serial) × (length (leaving size entries serial) ≤ length entries)
all_leaving owners size serial [] all = (tt, omega arith)
all_leaving owners size serial (e ∷ entries) all =
    let more = all_leaving owners size serial entries all.2 in
    let less = more.1 in
    elim (cases_Bool (fits size (serials_in (e ∷ entries) ++ serial ∷ []))) [
      | inl fit ↦ rw fit (tt, omega arith)
      | inr some ↦ rw some ((all.0, apart_leaving e.owner size serial entries all.1, more.0), omega (arith, less))
    ]

all_leaving_for : (world : World) (serial : Option Serial) → EntriesOk world → AreAll Weakly world.words.owners (leaving_for world.window world.entries serial) × (length (leaving_for world.window world.entries serial) ≤ 16)
all_leaving_for world None ok = (tt, omega arith)
all_leaving_for world (Some serial) ok =
    let it = all_leaving world.words.owners world.window serial.0 world.entries ok.weak in
    let less = it.1 in
    let few = ok.few in
    (it.0, omega (arith, less, few))

-- a weak owner can be made where the window is to have one
can_note : (words : Zones) (size serial : ℕ) → can_enter words size ≡ true → is_some (enters size serial) ≡ true → words.noted < notes
can_note words size serial can some =
    elim (cases_Bool (nat_lt 0 size)) [
      | inl window ↦ ltb-true words.noted notes (rw window at can)
      | inr none ↦ (let wrong : is_some (enters size serial) ≡ false = rw none refl in absurd (let w : true ≡ false = sym some ∙ wrong in cc))
    ]

publication_first : (world : World) (head : Heading) (version : Numbered) → EntriesOk world → FirstOf world.words (publication_start world head version)
publication_first world head version ok =
    first_if world.words (nat_lt world.words.granted grants && is_held world.words (oldest_kept world.keep world.kept) && can_enter world.words world.window) _ _
    (λ e. (
    let one = both (nat_lt world.words.granted grants && is_held world.words (oldest_kept world.keep world.kept)) (can_enter world.words world.window) e in
    let two = both (nat_lt world.words.granted grants) (is_held world.words (oldest_kept world.keep world.kept)) one.0 in
    let leave = all_leaving_for world (enters world.window (zone_serial version.zone)) ok in
    record {
      shares = ltb-true world.words.granted grants two.0;
      oldest = holding world.words (oldest_kept world.keep world.kept) two.1;
      leaving = leave.0;
      few = leave.1;
      notes_left = λ some. can_note world.words world.window (zone_serial version.zone) one.1 some;
    }
    ))
    (λ e. tt)

update_first : (world : World) (what : Option Judged) → EntriesOk world → FirstOf world.words (update_start world what)
update_first world None ok = tt
update_first world (Some (judgement.Code head code)) ok = tt
update_first world (Some (judgement.Makes head version)) ok = publication_first world head version ok

-- calls begin so, by their kind
abbrev pub OpeningOf : Start → Type 0
OpeningOf Refused = Unit {0}
OpeningOf (Answers answer) = Unit {0}
OpeningOf (Takes at) = IsOpening at

opening_if : (test : Bool) (one two : Start) → OpeningOf one → OpeningOf two → OpeningOf (if test then one else two)
opening_if true one two a b = a
opening_if false one two a b = b

drop_opening : (calls : List UnderWay) (owner : Option ℕ) → OpeningOf (drop_start calls owner)
drop_opening calls None = tt
drop_opening calls (Some owner) = opening_if (is_used calls owner) _ _ tt tt

fade_opening : (calls : List UnderWay) (owner : Option ℕ) → OpeningOf (fade_start calls owner)
fade_opening calls None = tt
fade_opening calls (Some owner) = opening_if (is_used calls owner) _ _ tt tt

copy_opening : (name : List ℕ) (owner : Option ℕ) → OpeningOf (copy_start name owner)
copy_opening name None = tt
copy_opening name (Some owner) = tt

weak_opening : (name : List ℕ) (owner : Option ℕ) → OpeningOf (weak_start name owner)
weak_opening name None = tt
weak_opening name (Some owner) = tt

up_opening : (calls : List UnderWay) (name : List ℕ) (owner : Option ℕ) → OpeningOf (up_start calls name owner)
up_opening calls name None = tt
up_opening calls name (Some owner) = opening_if (is_used calls owner) _ _ tt tt

ask_opening : (zone : Option (List Record)) (request : List ℕ) → OpeningOf (ask_start zone request)
ask_opening None request = tt
ask_opening (Some zone) request = opening_if (asks_update (reads request) || asks_sent Udp zone (reads request)) _ _ tt tt

seek_opening : (words : Zones) (sending : Sending) (owners : List ℕ) → OpeningOf (seek_start words sending owners)
seek_opening words sending [] = tt
seek_opening words sending (owner ∷ left) = opening_if (nat_le (words.granted + length (owner ∷ left)) grants) _ _ tt tt

asked_opening : (world : World) (sending : Sending) (query : QueryAsked) → OpeningOf (transfer_asked world sending query)
asked_opening world sending query =
    opening_if (not (is_permitted sending.version.zone (peer_over Tcp true) query)) _ _ tt
    (opening_if (is_some query.serial && is_barred world.calls) _ _ tt (seek_opening world.words sending (later sending.version.number query.serial world.entries)))

sent_opening : (world : World) (sending : Sending) (said : Parsed) → OpeningOf (transfer_said world sending said)
sent_opening world sending parsed.Silent = tt
sent_opening world sending (parsed.Fault head code) = tt
sent_opening world sending (parsed.BadOpt head question code dnssec_ok) = tt
sent_opening world sending (parsed.Query query) = asked_opening world sending query
sent_opening world sending (parsed.Update update) = tt
sent_opening world sending (parsed.NoMemory head) = tt

of_opening : (world : World) (owner : ℕ) (request : List ℕ) (version : Option Numbered) → OpeningOf (transfer_of world owner request version)
of_opening world owner request None = tt
of_opening world owner request (Some version) = sent_opening world (none_got owner version request) (reads request)

transfer_opening : (world : World) (request : List ℕ) (owner : Option ℕ) → OpeningOf (transfer_start world request owner)
transfer_opening world request None = tt
transfer_opening world request (Some owner) = of_opening world owner request (found_by world.words owner)

update_opening : (world : World) (what : Option Judged) → OpeningOf (update_start world what)
update_opening world None = tt
update_opening world (Some (judgement.Code head code)) = tt
update_opening world (Some (judgement.Makes head version)) = opening_if (nat_lt world.words.granted grants && is_held world.words (oldest_kept world.keep world.kept) && can_enter world.words world.window) _ _ tt tt

pub start_opening : (world : World) (call : Call) → OpeningOf (start world call)
start_opening world (Load name) = opening_if (is_taken name world) _ _ tt tt
start_opening world (Drop name) = drop_opening world.calls (owner_of name world.names)
start_opening world (Copy given name) = opening_if (is_taken name world) _ _ tt (copy_opening name (owner_of given world.names))
start_opening world (Weak given name) = opening_if (is_taken_weakly name world || is_barred world.calls) _ _ tt (weak_opening name (owner_of given world.names))
start_opening world (Fade name) = fade_opening world.calls (owner_of name world.weak_names)
start_opening world (Up weak name) = opening_if (is_taken name world) _ _ tt (up_opening world.calls name (owner_of weak world.weak_names))
start_opening world (Ask name request) = ask_opening (zone_of name world) request
start_opening world (Transfer name request) = transfer_opening world request (owner_of name world.names)
start_opening world (Update request) = opening_if (is_barred world.calls) _ _ tt (update_opening world (option_and_then (λ last. judged last request) (found_last world.words)))

pub start_first : (world : World) (call : Call) → EntriesIf world → FirstOf world.words (start world call)
start_first world (Load name) ok = first_if world.words (is_taken name world) _ _ (λ e. tt) (λ e. tt)
start_first world (Drop name) ok = drop_first world.words world.calls (owner_of name world.names)
start_first world (Copy given name) ok = first_if world.words (is_taken name world) _ _ (λ e. tt) (λ e. copy_first world.words name (owner_of given world.names))
start_first world (Weak given name) ok = first_if world.words (is_taken_weakly name world || is_barred world.calls) _ _ (λ e. tt) (λ e. weak_first world.words name (owner_of given world.names))
start_first world (Fade name) ok = fade_first world.words world.calls (owner_of name world.weak_names)
start_first world (Up weak name) ok = first_if world.words (is_taken name world) _ _ (λ e. tt) (λ e. up_first world.words world.calls name (owner_of weak world.weak_names))
start_first world (Ask name request) ok = ask_first world.words (zone_of name world) request
start_first world (Transfer name request) ok = transfer_first world request (owner_of name world.names) ok
start_first world (Update request) ok = first_if world.words (is_barred world.calls) _ _ (λ e. tt) (λ e. update_first world (option_and_then (λ last. judged last request) (found_last world.words)) (ok e))

-- a reply of its own
abbrev pub Refusal : World → Option (WorldReply × World) → Type 0
Refusal world o = (after_line : World) → o ≡ Some (NotEnabled, after_line) → after_line ≡ world

itself : (world : World) → Refusal world (Some (NotEnabled, world))
itself world after_line e =
    let pair : (NotEnabled, world) ≡ (NotEnabled, after_line) = (let i = e in cc) in sym (ap (λ (p : WorldReply × World). p.1) pair)

another : (world : World) (given : WorldReply) (other : World) → (given ≡ NotEnabled → ⊥) → Refusal world (Some (given, other))
another world given other isnt after_line e =
    let pair : (given, other) ≡ (NotEnabled, after_line) = (let i = e in cc) in absurd (isnt (ap (λ (p : WorldReply × World). p.0) pair))

refusal_if : (world : World) (test : Bool) (one two : Option (WorldReply × World)) → Refusal world one → Refusal world two → Refusal world (if test then one else two)
refusal_if world true one two a b = a
refusal_if world false one two a b = b

nothing : (world : World) → Refusal world None
nothing world after_line e = absurd (let wrong = e in cc)

no_answered : (answer : Answer) → Answered answer ≡ NotEnabled → ⊥
no_answered answer e = absurd (let wrong = e in cc)

all_made_refusal : (world : World) (call : Call) (came : Progress × Zones) → Unchanged world.words came → Refusal world (Some (all_made world call came))
all_made_refusal world call (On at, words) is =
    λ after_line e. itself world after_line (ap (λ (w : Zones). Some (NotEnabled, record world { words = w })) (sym is) ∙ e)
all_made_refusal world call (Done end, words) is = another world _ _ (no_answered (answer_at end))

whole_refusal : (world : World) (cell : Cell Numbered) (call : Call) (how : Start) → FirstOf world.words how → Shows world.words cell → length cell.published < 2 ^ 64 → Refusal world (whole world call how)
whole_refusal world cell call Refused is s few = itself world
whole_refusal world cell call (Answers answer) is s few = refusal_if world (is_full world) _ _ (nothing world) (another world _ _ (no_answered answer))
whole_refusal world cell call (Takes at) is s few =
    refusal_if world (is_full world) _ _ (nothing world)
    (all_made_refusal world call (steps_up_to most_steps world.words at) (first_by world.words cell at (step_once world.words at) refl is s (λ probe. few)))

begin_refusal : (world : World) (name : List ℕ) (call : Call) (how : Start) → Refusal world (begin_call world name call how)
begin_refusal world name call Refused = itself world
begin_refusal world name call (Answers answer) = refusal_if world (is_full world) _ _ (nothing world) (another world _ _ (no_answered answer))
begin_refusal world name call (Takes at) = refusal_if world (is_full world) _ _ (nothing world) (another world _ _ (λ e. absurd (let wrong = e in cc)))

begin_under_refusal : (world : World) (name : List ℕ) (call : Call) (other : Option UnderWay) → Refusal world (begin_under world name call other)
begin_under_refusal world name call None = begin_refusal world name call (start world call)
begin_under_refusal world name call (Some other) = itself world

stepped_refusal : (world : World) (name : List ℕ) (at : Phase) (o : Option (Progress × Zones)) → Refusal world (Some (stepped world name at o))
stepped_refusal world name at None = itself world
stepped_refusal world name at (Some (On further, words)) = another world _ _ (λ e. absurd (let wrong = e in cc))
stepped_refusal world name at (Some (Done end, words)) = another world _ _ (λ e. absurd (let wrong = e in cc))

next_refusal : (world : World) (name : List ℕ) (call : Option UnderWay) → Refusal world (Some (next world name call))
next_refusal world name None = itself world
next_refusal world name (Some call) = stepped_refusal world name call.phase (step_once world.words call.phase)

pub turn_refusal : (world after_line : World) (line : WorldStep) (cell : Cell Numbered) → EntriesIf world → Shows world.words cell → length cell.published < 2 ^ 64 → turn world line ≡ Some (NotEnabled, after_line) → after_line ≡ world
turn_refusal world after_line (Whole call) cell ok s few e = whole_refusal world cell call (start world call) (start_first world call ok) s few after_line e
turn_refusal world after_line (Begin name call) cell ok s few e = begin_under_refusal world name call (call_of name world.calls) after_line e
turn_refusal world after_line (Next name) cell ok s few e = next_refusal world name (call_of name world.calls) after_line e
