-- What a transfer that upgrades entries has got, step by step: the versions behind that of the asker's serial, in turn.
use Rattle.std.proofs.Common.{◌≡◌, refl, sym, ap, ◌∙◌, subst, ℕ, zero, suc, ◌+◌, ◌-◌, ◌<◌, ◌≤◌, true, false, inl, inr, List, [], ◌∷◌, ◌++◌, length, arith, Option, Some, None, length-append}
use Rattle.std.specs.List.{slice_get}
use Rattle.std.specs.Option.{option_and_then}
use Rattle.std.proofs.lemmas.Bool.{cases_Bool}
use Rattle.std.proofs.lemmas.List.{append_assoc, map-append}
use Rattle.cell_core.proofs.OwnerLemmas.{Keeps as KeepsNumber, raised_keeps}
use Rattle.cell_core.proofs.StepShows.{step_shows}
use Rattle.cell_core.proofs.UserLemmas.{owner_is_given}
use Rattle.cell_core.specs.Cell.{Cell, Steps}
use Rattle.cell_core.specs.Cell.CellStep.{Up}
use Rattle.cell_core.specs.Shows.{Shows, ShowsDead}
use Rattle.cell_core.specs.Words.{found_by, owned_of}
use Rattle.cell_core.specs.WordSteps.{Makes}
use Rattle.cell_core.specs.declared.words.Owner.{Owner}
use Rattle.cell_core.specs.declared.words.WordEvent.{WordEvent}
use Rattle.cell_core.specs.declared.words.WordEvent.TheVariants as reported
use Rattle.cell_core.specs.declared.words.WordStep.TheVariants as word
use Rattle.dns_message.specs.Request.{reads}
use Rattle.dns_message.specs.declared.query.Parsed.TheVariants as parsed
use Rattle.dns_message.specs.declared.query.Query.{Query as QueryAsked}
use Rattle.dns_message.specs.declared.update.Update.{Update as DynamicUpdate}
use Rattle.dns_rdata.specs.declared.numbers.Serial.{Serial}
use Rattle.transfer_core.specs.Chain.{zones_of, AreBehind}
use Rattle.transfer_core.specs.Lists.{AreVersions, newest}
use Rattle.world_run.specs.Phases.{word_step, after, past, gone, sent_after, completed, with_got, gained_after, got_after, updates}
use Rattle.world_run.specs.World.{step_once, steps_up_to, go_on}
use Rattle.world_run.specs.declared.entries.Entry.{Entry}
use Rattle.world_run.specs.declared.phase.End.TheVariants.{Owned, OwnedWeakly, Replied, NoSlot, Kept, Sent}
use Rattle.world_run.specs.declared.phase.Phase.{Phase}
use Rattle.world_run.specs.declared.phase.Phase.TheVariants as phase
use Rattle.world_run.specs.declared.phase.Progress.{Progress}
use Rattle.world_run.specs.declared.phase.Progress.TheVariants.{On, Done}
use Rattle.world_run.specs.declared.phase.Purpose.{Purpose}
use Rattle.world_run.specs.declared.phase.Purpose.TheVariants as purpose
use Rattle.world_run.specs.declared.sending.Seeking.{Seeking}
use Rattle.world_run.specs.declared.sending.Sending.{Sending}
use Rattle.world_run.specs.declared.step.Answer.{Answer}
use Rattle.world_run.specs.declared.step.Answer.TheVariants as answer
use Rattle.zone_tree.specs.Version.{Version as Numbered, KnowsChanges, zone_serial}
use Rattle.cell_core.specs.Made.{made}
use Rattle.world_laws.specs.Leads.{IsBuriedIn, zones_behind}
use Rattle.world_laws.proofs.CallReplays.{Script, Placed, updates_in, Zones, Tells, tells_same, Further, further_step, of_owner, owner_no_swap}
use Rattle.world_laws.proofs.ChainLists.{Zone}
use Rattle.world_laws.proofs.LeadLemmas.{zone_at}
use Rattle.world_laws.proofs.ReplayLemmas.{holds_by}
use Rattle.world_laws.proofs.SwapLemmas.{step_by}
use Rattle.world_laws.proofs.WindowSerials.{zone_more}

-- the zones behind one, one more, and the last of them
pub behind_push : (first : Zone) (ups : List DynamicUpdate) (k n : ℕ) → zones_behind first ups k n ++ zone_at first ups (k + n + 1) ∷ [] ≡ zones_behind first ups k (n + 1)
behind_push first ups k n =
    let e : n + 1 ≡ suc n = omega arith in
    by n k ∙ ap (zones_behind first ups k) (sym e)
  where
    by : (n k : ℕ) → zones_behind first ups k n ++ zone_at first ups (k + n + 1) ∷ [] ≡ zones_behind first ups k (suc n)
    by zero k = (let e : k + 0 + 1 ≡ k + 1 = omega arith in ap (λ j. zone_at first ups j ∷ []) e)
    by (suc n) k =
        let e : k + suc n + 1 ≡ k + 1 + n + 1 = omega arith in
        ap (λ zs. zone_at first ups (k + 1) ∷ zs) (ap (λ j. zones_behind first ups (k + 1) n ++ zone_at first ups j ∷ []) e ∙ by n (k + 1))

pub newest_behind : (first : Zone) (ups : List DynamicUpdate) (k n : ℕ) (zone : Zone) → zone ≡ zone_at first ups k → newest zone (zones_behind first ups k n) ≡ zone_at first ups (k + n)
newest_behind first ups k zero zone is = (let e : k + 0 ≡ k = omega arith in is ∙ ap (zone_at first ups) (sym e))
newest_behind first ups k (suc n) zone is =
    let e : k + 1 + n ≡ k + suc n = omega arith in
    newest_behind first ups (k + 1) n (zone_at first ups (k + 1)) refl ∙ ap (zone_at first ups) e

pub behind_count : (first : Zone) (ups : List DynamicUpdate) (k n : ℕ) → length (zones_behind first ups k n) ≡ n
behind_count first ups k zero = refl
behind_count first ups k (suc n) = (let more = behind_count first ups (k + 1) n in omega (arith, more))

-- versions behind one, and one more
behind_more : (zone : Zone) (versions : List Numbered) (version : Numbered) → AreBehind zone versions → KnowsChanges (newest zone (zones_of versions)) version → AreBehind zone (versions ++ version ∷ [])
behind_more zone [] version behind knows = (knows, tt)
behind_more zone (v ∷ versions) version behind knows = (behind.0, behind_more v.zone versions version behind.1 knows)

-- what a transfer of a version asks for: what changed since that of a number, of which an entry of the window is, and which has the serial that
-- it tells
pub record Asked (first : Zone) (seen : List DynamicUpdate) (entries : List Entry) (version : Numbered) (request : List ℕ) (asker : ℕ) : Type 0 where
  pub served : version.zone ≡ zone_at first seen version.number
  pub within : version.number ≤ length seen
  pub query : QueryAsked
  pub reads_so : reads request ≡ parsed.Query query
  pub serial : Serial
  pub asks : query.serial ≡ Some serial
  pub before : asker < version.number
  pub place : ℕ
  pub entry : Entry
  pub entry_at : slice_get entries place ≡ Some entry
  pub entry_is : entry.number ≡ asker
  pub entry_serial : entry.serial.0 ≡ serial.0
  pub serial_is : zone_serial (zone_at first seen asker) ≡ serial.0
  pub versions : AreVersions (zone_at first seen asker) (zones_behind first seen asker (version.number - asker))

-- it has got the first of the versions behind that
pub record HasGot (first : Zone) (seen : List DynamicUpdate) (entries : List Entry) (version : Numbered) (request : List ℕ) (asker : ℕ) (sending : Sending) : Type 0 where
  pub version_is : sending.version ≡ version
  pub request_is : sending.request ≡ request
  pub behind : AreBehind (zone_at first seen asker) sending.got
  pub zones : zones_of sending.got ≡ zones_behind first seen asker (length sending.got)

-- owners that have no other numbers than these, in turn
abbrev pub AreNumbered : List Owner → ℕ → List ℕ → Type 0
AreNumbered owners number [] = Unit {0}
AreNumbered owners number (o ∷ os) = KeepsNumber owners o number × AreNumbered owners (number + 1) os

-- while it upgrades entries
pub record Seeks (first : Zone) (ups : List DynamicUpdate) (words : Zones) (entries : List Entry) (version : Numbered) (request : List ℕ) (owner : ℕ) (seeking : Seeking) : Type 0 where
  pub seen : List DynamicUpdate
  pub more : List DynamicUpdate
  pub grown : ups ≡ seen ++ more
  pub asker : ℕ
  pub asked : Asked first seen entries version request asker
  pub got : HasGot first seen entries version request asker seeking.sending
  pub unfinished : seeking.sending.whole ≡ false
  pub numbered : AreNumbered words.owners (asker + length seeking.sending.got + 1) (owner ∷ seeking.left)
  pub count : asker + length seeking.sending.got + length (owner ∷ seeking.left) ≡ version.number

-- and behind that
pub record Sends (first : Zone) (ups : List DynamicUpdate) (words : Zones) (entries : List Entry) (version : Numbered) (request : List ℕ) (sending : Sending) : Type 0 where
  pub seen : List DynamicUpdate
  pub more : List DynamicUpdate
  pub grown : ups ≡ seen ++ more
  pub asker : ℕ
  pub asked : Asked first seen entries version request asker
  pub got : HasGot first seen entries version request asker sending
  pub all : sending.whole ≡ true → asker + length sending.got ≡ version.number
  pub untold : sending.whole ≡ false → (number : ℕ) × (asker < number) × (number ≤ version.number) × IsBuriedIn words number

abbrev pub SendsFor : Zone → List DynamicUpdate → Zones → List Entry → Numbered → List ℕ → Purpose → Type 0
SendsFor first ups words entries version request purpose.Drop = ⊥
SendsFor first ups words entries version request (purpose.Publish keeping kept entry) = ⊥
SendsFor first ups words entries version request (purpose.Oldest head kept entry leaving) = ⊥
SendsFor first ups words entries version request (purpose.Leaves head kept entry leaving) = ⊥
SendsFor first ups words entries version request (purpose.Sent sending owners) = Sends first ups words entries version request sending

abbrev pub SendsIn : Zone → List DynamicUpdate → Zones → List Entry → Numbered → List ℕ → Phase → Type 0
SendsIn first ups words entries version request (phase.Load name) = ⊥
SendsIn first ups words entries version request (phase.Look name owner) = ⊥
SendsIn first ups words entries version request (phase.Raise name owner) = ⊥
SendsIn first ups words entries version request (phase.Note name owner) = ⊥
SendsIn first ups words entries version request (phase.Seek owner seeking) = Seeks first ups words entries version request owner seeking
SendsIn first ups words entries version request (phase.Gain owner seeking) = Seeks first ups words entries version request owner seeking
SendsIn first ups words entries version request (phase.Probe published keeping) = ⊥
SendsIn first ups words entries version request (phase.Prepare published keeping) = ⊥
SendsIn first ups words entries version request (phase.Swap keeping) = ⊥
SendsIn first ups words entries version request (phase.Settle keeping) = ⊥
SendsIn first ups words entries version request (phase.Keep given keeping) = ⊥
SendsIn first ups words entries version request (phase.Enter given kept keeping) = ⊥
SendsIn first ups words entries version request (phase.Release owner for) = SendsFor first ups words entries version request for
SendsIn first ups words entries version request (phase.Bury owner for) = SendsFor first ups words entries version request for
SendsIn first ups words entries version request (phase.Fade owner number for) = SendsFor first ups words entries version request for
SendsIn first ups words entries version request (phase.Reset owner number for) = SendsFor first ups words entries version request for
SendsIn first ups words entries version request (phase.Free owner number for) = SendsFor first ups words entries version request for

abbrev pub SendsAt : Zone → List DynamicUpdate → Zones → List Entry → Numbered → List ℕ → Progress → Type 0
SendsAt first ups words entries version request (On at) = SendsIn first ups words entries version request at
SendsAt first ups words entries version request (Done (Owned name owner number)) = ⊥
SendsAt first ups words entries version request (Done (OwnedWeakly name owner number)) = ⊥
SendsAt first ups words entries version request (Done (Replied given)) = ⊥
SendsAt first ups words entries version request (Done (NoSlot head)) = ⊥
SendsAt first ups words entries version request (Done (Kept head owner entry)) = ⊥
SendsAt first ups words entries version request (Done (Sent sending)) = Sends first ups words entries version request sending

-- where more updates are published, and others have taken steps
numbered_on : (words later : Zones) (number : ℕ) (os : List ℕ) → Further words later → AreNumbered words.owners number os → AreNumbered later.owners number os
numbered_on words later number [] further all = tt
numbered_on words later number (o ∷ os) further all = (further.numbers o number all.0, numbered_on words later (number + 1) os further all.1)

module _ (first : Zone) (ups : List DynamicUpdate) (entries : List Entry) (version : Numbered) (request : List ℕ) where
  seeks_on : (words later : Zones) (more : List DynamicUpdate) (owner : ℕ) (seeking : Seeking) → Further words later → Seeks first ups words entries version request owner seeking → Seeks first (ups ++ more) later entries version request owner seeking
  seeks_on words later more owner seeking further s = record {
    seen = s.seen;
    more = s.more ++ more;
    grown = ap (λ u. u ++ more) s.grown ∙ append_assoc s.seen s.more more;
    asker = s.asker;
    asked = s.asked;
    got = s.got;
    unfinished = s.unfinished;
    numbered = numbered_on words later (s.asker + length seeking.sending.got + 1) (owner ∷ seeking.left) further s.numbered;
    count = s.count;
  }

  still_untold : (words later : Zones) (asker : ℕ) → Further words later → (number : ℕ) × (asker < number) × (number ≤ version.number) × IsBuriedIn words number → (number : ℕ) × (asker < number) × (number ≤ version.number) × IsBuriedIn later number
  still_untold words later asker further u = (u.0, u.1, u.2, further.buried u.0 u.3)

  for_on : (words later : Zones) (more : List DynamicUpdate) (for : Purpose) → Further words later → SendsFor first ups words entries version request for → SendsFor first (ups ++ more) later entries version request for
  for_on words later more purpose.Drop further s = absurd s
  for_on words later more (purpose.Publish keeping kept entry) further s = absurd s
  for_on words later more (purpose.Oldest head kept entry leaving) further s = absurd s
  for_on words later more (purpose.Leaves head kept entry leaving) further s = absurd s
  for_on words later more (purpose.Sent sending owners) further s = record {
    seen = s.seen;
    more = s.more ++ more;
    grown = ap (λ u. u ++ more) s.grown ∙ append_assoc s.seen s.more more;
    asker = s.asker;
    asked = s.asked;
    got = s.got;
    all = s.all;
    untold = λ e. still_untold words later s.asker further (s.untold e);
  }

  pub sends_on : (words later : Zones) (more : List DynamicUpdate) (at : Phase) → Further words later → SendsIn first ups words entries version request at → SendsIn first (ups ++ more) later entries version request at
  sends_on words later more (phase.Load name) further s = absurd s
  sends_on words later more (phase.Look name owner) further s = absurd s
  sends_on words later more (phase.Raise name owner) further s = absurd s
  sends_on words later more (phase.Note name owner) further s = absurd s
  sends_on words later more (phase.Seek owner seeking) further s = seeks_on words later more owner seeking further s
  sends_on words later more (phase.Gain owner seeking) further s = seeks_on words later more owner seeking further s
  sends_on words later more (phase.Probe published keeping) further s = absurd s
  sends_on words later more (phase.Prepare published keeping) further s = absurd s
  sends_on words later more (phase.Swap keeping) further s = absurd s
  sends_on words later more (phase.Settle keeping) further s = absurd s
  sends_on words later more (phase.Keep given keeping) further s = absurd s
  sends_on words later more (phase.Enter given kept keeping) further s = absurd s
  sends_on words later more (phase.Release owner for) further s = for_on words later more for further s
  sends_on words later more (phase.Bury owner for) further s = for_on words later more for further s
  sends_on words later more (phase.Fade owner number for) further s = for_on words later more for further s
  sends_on words later more (phase.Reset owner number for) further s = for_on words later more for further s
  sends_on words later more (phase.Free owner number for) further s = for_on words later more for further s

  -- it is no update
  sends_no_update_for : (words : Zones) (for : Purpose) (owner : ℕ) → SendsFor first ups words entries version request for → updates (phase.Release owner for) ≡ false
  sends_no_update_for words purpose.Drop owner s = refl
  sends_no_update_for words (purpose.Publish keeping kept entry) owner s = absurd s
  sends_no_update_for words (purpose.Oldest head kept entry leaving) owner s = absurd s
  sends_no_update_for words (purpose.Leaves head kept entry leaving) owner s = absurd s
  sends_no_update_for words (purpose.Sent sending owners) owner s = refl

  sends_no_update : (words : Zones) (at : Phase) → SendsIn first ups words entries version request at → updates at ≡ false
  sends_no_update words (phase.Load name) s = refl
  sends_no_update words (phase.Look name owner) s = refl
  sends_no_update words (phase.Raise name owner) s = refl
  sends_no_update words (phase.Note name owner) s = refl
  sends_no_update words (phase.Seek owner seeking) s = refl
  sends_no_update words (phase.Gain owner seeking) s = refl
  sends_no_update words (phase.Probe published keeping) s = absurd s
  sends_no_update words (phase.Prepare published keeping) s = absurd s
  sends_no_update words (phase.Swap keeping) s = absurd s
  sends_no_update words (phase.Settle keeping) s = absurd s
  sends_no_update words (phase.Keep given keeping) s = absurd s
  sends_no_update words (phase.Enter given kept keeping) s = absurd s
  sends_no_update words (phase.Release owner for) s = sends_no_update_for words for owner s
  sends_no_update words (phase.Bury owner for) s = sends_no_update_for words for owner s
  sends_no_update words (phase.Fade owner number for) s = sends_no_update_for words for owner s
  sends_no_update words (phase.Reset owner number for) s = sends_no_update_for words for owner s
  sends_no_update words (phase.Free owner number for) s = sends_no_update_for words for owner s

  -- what follows on its steps: the owners that were got are given up
  sent_follows : (words : Zones) (sending : Sending) (got : List ℕ) → Sends first ups words entries version request sending → SendsAt first ups words entries version request (sent_after sending got)
  sent_follows words sending [] s = s
  sent_follows words sending (owner ∷ got) s = s

  past_follows : (words : Zones) (for : Purpose) (given : Answer) → SendsFor first ups words entries version request for → SendsAt first ups words entries version request (past for given)
  past_follows words purpose.Drop given s = absurd s
  past_follows words (purpose.Publish keeping kept entry) given s = absurd s
  past_follows words (purpose.Oldest head kept entry leaving) given s = absurd s
  past_follows words (purpose.Leaves head kept entry leaving) given s = absurd s
  past_follows words (purpose.Sent sending got) given s = sent_follows words sending got s

  release_follows : (words : Zones) (at : ℕ) (for : Purpose) → SendsFor first ups words entries version request for → (event : WordEvent) → SendsAt first ups words entries version request (after words (phase.Release at for) event)
  release_follows words at for s reported.Emptied = s
  release_follows words at for s event = past_follows words for answer.Left s

  bury_follows : (words : Zones) (at : ℕ) (for : Purpose) → SendsFor first ups words entries version request for → (event : WordEvent) → SendsAt first ups words entries version request (after words (phase.Bury at for) event)
  bury_follows words at for s (reported.Buried number) = s
  bury_follows words at for s event = past_follows words for answer.Left s

  fade_follows : (words : Zones) (at : ℕ) (number : Option ℕ) (for : Purpose) → SendsFor first ups words entries version request for → (event : WordEvent) → SendsAt first ups words entries version request (after words (phase.Fade at number for) event)
  fade_follows words at number for s reported.Closed = s
  fade_follows words at number for s event = past_follows words for (gone number) s

  -- no further version is got where the next one is buried
  ends_here : (words : Zones) (owner : ℕ) (seeking : Seeking) (s : Seeks first ups words entries version request owner seeking) → IsBuriedIn words (s.asker + length seeking.sending.got + 1) → Sends first ups words entries version request seeking.sending
  ends_here words owner seeking s buried = record {
    seen = s.seen;
    more = s.more;
    grown = s.grown;
    asker = s.asker;
    asked = s.asked;
    got = s.got;
    all = λ e. absurd (let wrong : true ≡ false = sym e ∙ s.unfinished in cc);
    untold = λ e. (s.asker + length seeking.sending.got + 1, omega arith, (let count = s.count in omega (arith, count)), buried);
  }

  -- the same, behind its step
  goes_by : (words new : Zones) (owner : ℕ) (seeking : Seeking) → Further words new → Seeks first ups words entries version request owner seeking → Seeks first ups new entries version request owner seeking
  goes_by words new owner seeking further s = record {
    seen = s.seen;
    more = s.more;
    grown = s.grown;
    asker = s.asker;
    asked = s.asked;
    got = s.got;
    unfinished = s.unfinished;
    numbered = numbered_on words new (s.asker + length seeking.sending.got + 1) (owner ∷ seeking.left) further s.numbered;
    count = s.count;
  }

  for_by : (words new : Zones) (for : Purpose) → Further words new → SendsFor first ups words entries version request for → SendsFor first ups new entries version request for
  for_by words new purpose.Drop further s = absurd s
  for_by words new (purpose.Publish keeping kept entry) further s = absurd s
  for_by words new (purpose.Oldest head kept entry leaving) further s = absurd s
  for_by words new (purpose.Leaves head kept entry leaving) further s = absurd s
  for_by words new (purpose.Sent sending owners) further s = record { seen = s.seen; more = s.more; grown = s.grown; asker = s.asker; asked = s.asked; got = s.got; all = s.all; untold = λ e. still_untold words new s.asker further (s.untold e) }

  -- where DEAD is seen, the version is buried
  dead_is : (cell next : Cell Numbered) (number : ℕ) → Steps cell (Up number) None next → next.buried number ≡ true
  dead_is cell next number up =
      elim (cases_Bool (cell.buried number)) [
        | inl gone ↦ (let h = rw gone at up.1 in ap (λ (c : Cell Numbered). c.buried number) h.1 ∙ gone)
        | inr still ↦ (let h = rw still at up.1 in absurd (let wrong = h.0 in cc))
      ]

  dead_buried : (words new : Zones) (owner number : ℕ) (cell next : Cell Numbered) → Shows new next → ShowsDead words owner cell next → KeepsNumber words.owners owner number → IsBuriedIn new number
  dead_buried words new owner number cell next shows dead keeps =
      let which : dead.0 ≡ number = keeps.same dead.0 dead.1 (ap (option_and_then owned_of) dead.2) in
      (next, shows, subst (λ k. next.buried k ≡ true) which (dead_is cell next dead.0 dead.3))

  look_dead : (words new : Zones) (owner number : ℕ) (cell : Cell Numbered) → Shows words cell → Makes {T = Numbered} words (word.Look owner) reported.Dead new → KeepsNumber words.owners owner number → IsBuriedIn new number
  look_dead words new owner number cell shows m keeps = (let shown = step_shows {T = Numbered} words new (word.Look owner) reported.Dead cell shows m in dead_buried words new owner number cell shown.0 shown.2 shown.1 keeps)

  raise_dead : (words new : Zones) (owner number : ℕ) (cell : Cell Numbered) → Shows words cell → Makes {T = Numbered} words (word.Raise owner) reported.Dead new → KeepsNumber words.owners owner number → IsBuriedIn new number
  raise_dead words new owner number cell shows m keeps = (let shown = step_shows {T = Numbered} words new (word.Raise owner) reported.Dead cell shows m in dead_buried words new owner number cell shown.0 shown.2 shown.1 keeps)

  seek_follows : (words new : Zones) (cell : Cell Numbered) (owner : ℕ) (seeking : Seeking) → Shows words cell → (s : Seeks first ups words entries version request owner seeking) → (event : WordEvent) → Makes {T = Numbered} words (word.Look owner) event new → Seeks first ups new entries version request owner seeking
      → SendsAt first ups new entries version request (after new (phase.Seek owner seeking) event)
  unfolding goes_by
  seek_follows words new cell owner seeking shows s reported.Alive m later = later
  seek_follows words new cell owner seeking shows s reported.Dead m later =
      let further = further_step words new (word.Look owner) reported.Dead m in
      sent_follows new seeking.sending seeking.owners (ends_here new owner seeking (goes_by words new owner seeking further s) (look_dead words new owner (s.asker + length seeking.sending.got + 1) cell shows m s.numbered.0))
  seek_follows words new cell owner seeking shows s event m later = later

  -- one more was got
  one_more : (words : Zones) (next : ℕ) (found : Numbered) (owner : ℕ) (seeking : Seeking) (s : Seeks first ups words entries version request owner seeking) → found.zone ≡ zone_at first s.seen (s.asker + length seeking.sending.got + 1)
      → KnowsChanges (zone_at first s.seen (s.asker + length seeking.sending.got)) found → HasGot first s.seen entries version request s.asker (with_got next found seeking).sending
  one_more words next found owner seeking s zone knows =
      let got = seeking.sending.got in
      let n = length-append got (found ∷ []) in
      let last : newest (zone_at first s.seen s.asker) (zones_of got) ≡ zone_at first s.seen (s.asker + length got) = ap (newest (zone_at first s.seen s.asker)) s.got.zones ∙ newest_behind first s.seen s.asker (length got) (zone_at first s.seen s.asker) refl in
      record {
        version_is = s.got.version_is;
        request_is = s.got.request_is;
        behind = behind_more (zone_at first s.seen s.asker) got found s.got.behind (subst (λ z. KnowsChanges z found) (sym last) knows);
        zones = map-append (λ (v : Numbered). v.zone) got (found ∷ [])
            ∙ (ap (λ zs. zs ++ found.zone ∷ []) s.got.zones ∙ (ap (λ z. zones_behind first s.seen s.asker (length got) ++ z ∷ []) zone
            ∙ (behind_push first s.seen s.asker (length got) ∙ ap (zones_behind first s.seen s.asker) (sym n))));
      }

  gained_follows : (words : Zones) (next : ℕ) (found : Numbered) (owner : ℕ) (seeking : Seeking) (left : List ℕ) (s : Seeks first ups words entries version request owner seeking) → left ≡ seeking.left → HasGot first s.seen entries version request s.asker (with_got next found seeking).sending
      → SendsAt first ups words entries version request (gained_after (with_got next found seeking) left)
  gained_follows words next found owner seeking [] s is got =
      let n = length-append seeking.sending.got (found ∷ []) in
      let none : length seeking.left ≡ 0 = ap length (sym is) in
      sent_follows words (completed (with_got next found seeking).sending) (with_got next found seeking).owners (record {
        seen = s.seen;
        more = s.more;
        grown = s.grown;
        asker = s.asker;
        asked = s.asked;
        got = record { version_is = got.version_is; request_is = got.request_is; behind = got.behind; zones = got.zones };
        all = λ e. (let count = s.count in omega (arith, count, n, none));
        untold = λ e. absurd (let wrong = e in cc);
      })
  gained_follows words next found owner seeking (other ∷ left) s is got =
      let n = length-append seeking.sending.got (found ∷ []) in
      let some : length seeking.left ≡ length (other ∷ left) = ap length (sym is) in
      let numbered : AreNumbered words.owners (s.asker + length seeking.sending.got + 1 + 1) (other ∷ left) = subst (AreNumbered words.owners (s.asker + length seeking.sending.got + 1 + 1)) (sym is) s.numbered.1 in
      let at : s.asker + length seeking.sending.got + 1 + 1 ≡ s.asker + length (seeking.sending.got ++ found ∷ []) + 1 = omega (arith, n) in
      record {
        seen = s.seen;
        more = s.more;
        grown = s.grown;
        asker = s.asker;
        asked = s.asked;
        got = got;
        unfinished = s.unfinished;
        numbered = subst (λ k. AreNumbered words.owners k (other ∷ left)) at numbered;
        count = (let count = s.count in omega (arith, count, n, some));
      }

  -- what an owner finds is the version of its number
  found_is : (S : Script) (us : List Placed) (new : Zones) (next number : ℕ) (found : Numbered) → ups ≡ updates_in us → Tells S first new us → KeepsNumber new.owners next (number + 1) → found_by new next ≡ Some found
      → (found.zone ≡ zone_at first ups (number + 1)) × KnowsChanges (zone_at first ups number) found
  found_is S us new next number found is t keeps e =
      let held = holds_by new next found (slice_get new.owners next) refl e in
      let which : held.0 ≡ number + 1 = keeps.same held.0 held.1 (ap (option_and_then owned_of) held.2) in
      let there : slice_get t.cell.published (number + 1) ≡ Some found = ap (slice_get t.cell.published) (sym which) ∙ (sym (owner_is_given new t.cell next held.0 held.1 t.shows held.2) ∙ e) in
      ((t.replays.versions (number + 1) found there).1 ∙ ap (λ u. zone_at first u (number + 1)) (sym is), subst (λ u. KnowsChanges (zone_at first u number) found) (sym is) (t.replays.changes number found there))

  got_follows : (S : Script) (us : List Placed) (new : Zones) (owner : ℕ) (seeking : Seeking) (next : ℕ) (o : Option Numbered) → found_by new next ≡ o → ups ≡ updates_in us → Tells S first new us → (s : Seeks first ups new entries version request owner seeking) → KeepsNumber new.owners next (s.asker + length seeking.sending.got + 1)
      → SendsAt first ups new entries version request (got_after owner seeking next o)
  got_follows S us new owner seeking next None e is t s keeps = s
  got_follows S us new owner seeking next (Some found) e is t s keeps =
      let k = s.asker + length seeking.sending.got in
      let f = found_is S us new next k found is t keeps e in
      let count = s.count in
      let within = s.asked.within in
      let one : zone_at first ups (k + 1) ≡ zone_at first s.seen (k + 1) = ap (λ u. zone_at first u (k + 1)) s.grown ∙ zone_more first s.seen s.more (k + 1) (omega (arith, count, within)) in
      let two : zone_at first ups k ≡ zone_at first s.seen k = ap (λ u. zone_at first u k) s.grown ∙ zone_more first s.seen s.more k (omega (arith, count, within)) in
      gained_follows new next found owner seeking seeking.left s refl (one_more new next found owner seeking s (f.0 ∙ one) (subst (λ z. KnowsChanges z found) two f.1))

  gain_follows : (S : Script) (us : List Placed) (words new : Zones) (cell : Cell Numbered) (owner : ℕ) (seeking : Seeking) → Shows words cell → (s : Seeks first ups words entries version request owner seeking) → (event : WordEvent) → Makes {T = Numbered} words (word.Raise owner) event new → ups ≡ updates_in us → Tells S first new us
      → Seeks first ups new entries version request owner seeking → SendsAt first ups new entries version request (after new (phase.Gain owner seeking) event)
  unfolding goes_by
  gain_follows S us words new cell owner seeking shows s (reported.Raised next number) m is t later =
      let keeps = raised_keeps words new owner next number (s.asker + length seeking.sending.got + 1) m s.numbered.0 in
      got_follows S us new owner seeking next (found_by new next) refl is t (goes_by words new owner seeking (further_step words new (word.Raise owner) (reported.Raised next number) m) s) keeps.1
  gain_follows S us words new cell owner seeking shows s reported.Dead m is t later =
      let further = further_step words new (word.Raise owner) reported.Dead m in
      sent_follows new seeking.sending seeking.owners (ends_here new owner seeking (goes_by words new owner seeking further s) (raise_dead words new owner (s.asker + length seeking.sending.got + 1) cell shows m s.numbered.0))
  gain_follows S us words new cell owner seeking shows s event m is t later = later

  -- each step keeps it
  pub step_sends : (S : Script) (us : List Placed) (words new : Zones) (cell : Cell Numbered) (at : Phase) (event : WordEvent) → Shows words cell → Makes words (word_step at) event new → ups ≡ updates_in us → Tells S first new us → SendsIn first ups words entries version request at → SendsAt first ups new entries version request (after new at event)
  step_sends S us words new cell (phase.Load name) event shows m is t s = absurd s
  step_sends S us words new cell (phase.Look name owner) event shows m is t s = absurd s
  step_sends S us words new cell (phase.Raise name owner) event shows m is t s = absurd s
  step_sends S us words new cell (phase.Note name owner) event shows m is t s = absurd s
  step_sends S us words new cell (phase.Seek owner seeking) event shows m is t s = seek_follows words new cell owner seeking shows s event m (goes_by words new owner seeking (further_step words new (word.Look owner) event m) s)
  step_sends S us words new cell (phase.Gain owner seeking) event shows m is t s = gain_follows S us words new cell owner seeking shows s event m is t (goes_by words new owner seeking (further_step words new (word.Raise owner) event m) s)
  step_sends S us words new cell (phase.Probe published keeping) event shows m is t s = absurd s
  step_sends S us words new cell (phase.Prepare published keeping) event shows m is t s = absurd s
  step_sends S us words new cell (phase.Swap keeping) event shows m is t s = absurd s
  step_sends S us words new cell (phase.Settle keeping) event shows m is t s = absurd s
  step_sends S us words new cell (phase.Keep given keeping) event shows m is t s = absurd s
  step_sends S us words new cell (phase.Enter given kept keeping) event shows m is t s = absurd s
  step_sends S us words new cell (phase.Release owner for) event shows m is t s = release_follows new owner for (for_by words new for (further_step words new (word.Release owner) event m) s) event
  step_sends S us words new cell (phase.Bury owner for) event shows m is t s = bury_follows new owner for (for_by words new for (further_step words new (word.Bury owner) event m) s) event
  step_sends S us words new cell (phase.Fade owner number for) event shows m is t s = fade_follows new owner number for (for_by words new for (further_step words new (word.Fade owner) event m) s) event
  step_sends S us words new cell (phase.Reset owner number for) event shows m is t s = for_by words new for (further_step words new (word.Reset owner) event m) s
  step_sends S us words new cell (phase.Free owner number for) event shows m is t s = past_follows new for (gone number) (for_by words new for (further_step words new (word.Free owner) event m) s)

  -- its step leaves the updates so far
  pub record SentOnce (S : Script) (us : List Placed) (new : Zones) (progress : Progress) : Type 0 where
    pub tells : Tells S first new us
    pub sends : SendsAt first ups new entries version request progress

  pub once_sends : (S : Script) (us : List Placed) (words new : Zones) (at : Phase) (progress : Progress) → step_once words at ≡ Some (progress, new) → ups ≡ updates_in us → Tells S first words us → SendsIn first ups words entries version request at → SentOnce S us new progress
  once_sends S us words new at progress e is t s =
      let one = step_by words new at progress (made words (word_step at)) refl e in
      let later = tells_same S first words new us (word_step at) one.event (owner_no_swap (word_step at) (of_owner at (sends_no_update words at s))) one.makes t in
      record { tells = later; sends = subst (SendsAt first ups new entries version request) one.goes (step_sends S us words new t.cell at one.event t.shows one.makes is later s) }

  many_by : (S : Script) (us : List Placed) (words : Zones) (at : Phase) (more : Zones → Phase → Progress × Zones) (o : Option (Progress × Zones)) → ups ≡ updates_in us
      → ((words : Zones) (at : Phase) → Tells S first words us → SendsIn first ups words entries version request at → SendsAt first ups (more words at).1 entries version request (more words at).0)
      → Tells S first words us → SendsIn first ups words entries version request at → step_once words at ≡ o → SendsAt first ups (go_on more words at o).1 entries version request (go_on more words at o).0
  many_by S us words at more None is all t s e = s
  many_by S us words at more (Some (On next, between)) is all t s e = (let b = once_sends S us words between at (On next) e is t s in all between next b.tells b.sends)
  many_by S us words at more (Some (Done end, between)) is all t s e = (once_sends S us words between at (Done end) e is t s).sends

  pub many_sends : (left : ℕ) (S : Script) (us : List Placed) (words : Zones) (at : Phase) → ups ≡ updates_in us → Tells S first words us → SendsIn first ups words entries version request at → SendsAt first ups (steps_up_to left words at).1 entries version request (steps_up_to left words at).0
  unfolding steps_up_to
  many_sends zero S us words at is t s = s
  many_sends (suc left) S us words at is t s = many_by S us words at (steps_up_to left) (step_once words at) is (λ words at t s. many_sends left S us words at is t s) t s refl
