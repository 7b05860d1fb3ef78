-- What is in hand, line by line.
use Rattle.std.proofs.Common.{lit<, ◌≡◌, refl, sym, ap, ◌∙◌, subst, ℕ, zero, suc, ◌+◌, ◌^◌, ◌<◌, ◌≤◌, Bool, true, false, inl, inr, List, [], ◌∷◌, ◌++◌, length, arith, Option, Some, None, length-append}
use Rattle.std.specs.Prelude.{◌==◌, ◌||◌, ◌&&◌, is_some, min, not, nat_le, nat_lt, bytes_eq, if◌then◌else◌}
use Rattle.std.specs.List.{slice_get, list_any}
use Rattle.std.specs.Option.{option_and_then}
use Rattle.std.proofs.lemmas.Bool.{cases_Bool, ltb-true}
use Rattle.std.proofs.lemmas.List.{append-nil, length-map}
use Rattle.std.proofs.lemmas.Bool.Decides.{eqb_tells}
use Rattle.cell_core.proofs.BeginShows.{begun_shows}
use Rattle.cell_core.proofs.CountLemmas.{one_if}
use Rattle.cell_core.proofs.StepShows.{step_shows}
use Rattle.cell_core.specs.Cell.{Cell, start as cell_start}
use Rattle.cell_core.specs.Shows.{Shows}
use Rattle.cell_core.specs.Words.{begun, first_slot, found_by, found_last, grants}
use Rattle.cell_core.specs.declared.words.WordStep.TheVariants as word
use Rattle.cell_core.specs.declared.words.WordEvent.TheVariants as reported
use Rattle.dns_rdata.specs.Record.{Record}
use Rattle.serve_core.specs.declared.heading.Heading.{Heading}
use Rattle.dns_message.specs.declared.query.Parsed.{Parsed}
use Rattle.dns_message.specs.declared.query.Parsed.TheVariants as parsed
use Rattle.dns_message.specs.declared.query.Query.{Query as QueryAsked}
use Rattle.dns_message.specs.Request.{reads}
use Rattle.serve_core.specs.declared.transport.Transport.TheVariants.{Udp, Tcp}
use Rattle.serve_core.specs.Transfers.{peer_over, is_permitted}
use Rattle.zone_tree.specs.Version.{Version as Numbered, zone_serial}
use Rattle.world_run.specs.declared.judged.Judged.{Judged}
use Rattle.world_run.specs.declared.judged.Judged.TheVariants as judgement
use Rattle.world_run.specs.declared.phase.Phase.{Phase}
use Rattle.world_run.specs.declared.phase.Phase.TheVariants as phase
use Rattle.world_run.specs.declared.phase.Progress.{Progress}
use Rattle.world_run.specs.declared.phase.Progress.TheVariants.{On, Done}
use Rattle.world_run.specs.declared.names.Named.{Named}
use Rattle.world_run.specs.declared.calls.UnderWay.{UnderWay}
use Rattle.world_run.specs.declared.start.Start.{Start}
use Rattle.world_run.specs.declared.start.Start.TheVariants.{Refused, Answers, Takes}
use Rattle.world_run.specs.declared.step.Call.{Call}
use Rattle.world_run.specs.declared.step.Call.TheVariants.{Load, Drop, Copy, Weak, Fade, Up, Ask, Transfer, Update}
use Rattle.world_run.specs.declared.step.WorldReply.{WorldReply}
use Rattle.world_run.specs.declared.step.WorldReply.TheVariants.{NotEnabled}
use Rattle.world_run.specs.declared.step.WorldStep.{WorldStep as Line}
use Rattle.world_run.specs.declared.step.WorldStep.TheVariants.{Whole, Begin, Next}
use Rattle.world_run.specs.Judgements.{asks_update, judged}
use Rattle.world_run.specs.Numbered.{first_version}
use Rattle.world_run.specs.Phases.{reserves, reserves_weakly}
use Rattle.world_run.specs.Entries.{most_entries, serials_in, owners_in, entered, enters, later}
use Rattle.world_run.specs.declared.entries.Entry.{Entry}
use Rattle.world_run.specs.declared.phase.End.{End}
use Rattle.world_run.specs.declared.phase.End.TheVariants.{Owned, OwnedWeakly, Replied, NoSlot, Kept as Published, Sent}
use Rattle.transfer_core.specs.Window.{span, fits}
use Rattle.world_run.specs.declared.sending.Sending.{Sending}
use Rattle.world_laws.specs.Replays.{IsSentAt}
use Rattle.world_run.specs.World.{World, loaded_once, noted_once, started, started_within, owner_of, call_of, without_call, is_taken, is_taken_weakly, is_used, is_held, drop_start, fade_start, copy_start, weak_start, up_start, asks_sent, ask_start, seek_start, transfer_asked, transfer_said, transfer_of, transfer_start, none_got, is_barred, can_enter, keeping_for, first_entries, entries_at, oldest_kept, publication_start, update_start, start, zone_of, given_up, weak_given_up, step_once, steps_up_to, most_steps, is_full, all_made, whole, begin_call, begin_under, stepped, next, turn, onto_replies, play}
use Rattle.world_laws.proofs.CallReplays.{Script, script, publishes_nothing}
use Rattle.world_laws.proofs.OtherCalls.{any_update, unbarred}
use Rattle.world_laws.proofs.FirstLemmas.{EntriesIf, IsProbe, FirstOf, Unchanged, first_by, start_first, turn_refusal}
use Rattle.world_laws.proofs.EndLemmas.{IsApart, AreAll}
use Rattle.world_laws.proofs.ReplayLemmas.{Goes, AllSent, turn_goes, all_sent, start_goes, last_replay}
use Rattle.cell_core.specs.declared.words.Owner.{Owner}
use Rattle.cell_core.specs.declared.words.Owner.TheVariants.{Holding, Twice, Weakly, Both, Burying, Fading, Resetting, Freeing, Spent}
use Rattle.world_laws.proofs.UseLemmas.{AllFit, times, times_append, fit_back, lives, other_equal}
use Rattle.world_laws.proofs.UseLists.{Zones, use_of, window_uses}
use Rattle.world_laws.proofs.UseLemmas.UseKind.{has, notes}
use Rattle.world_laws.proofs.UseWorld.{Store, store_of, stays_of, both_uses, kept_uses, call_uses, reserved_by, weak_reserved_by, called, named_by, Open, AllInUse, nothing_apart, step_open, many_open}
use Rattle.world_laws.proofs.UseTurns.{times_four, fits_four, taken_out, put_back, Among, among}
use Rattle.world_laws.proofs.UseEnds.{closed, load_open, look_open, raise_open, note_open, drop_open, fade_open, update_open, seek_open}

-- a call that begins has in hand what it is to give up
abbrev pub BeginsOk : World → Cell Numbered → Call → Start → Type 0
BeginsOk world cell call Refused = Unit {0}
BeginsOk world cell call (Answers given) = Unit {0}
BeginsOk world cell call (Takes at) = Open world.words (given_up call world.names) (weak_given_up call world.weak_names) (store_of world) world.calls (On at) × (IsProbe at → length cell.published < 2 ^ 64)

begins_if : (world : World) (cell : Cell Numbered) (call : Call) (test : Bool) (one two : Start) → (test ≡ true → BeginsOk world cell call one) → (test ≡ false → BeginsOk world cell call two) → BeginsOk world cell call (if test then one else two)
begins_if world cell call true one two a b = a refl
begins_if world cell call false one two a b = b refl

or_false : (a b : Bool) → (a || b) ≡ false → (a ≡ false) × (b ≡ false)
or_false true b e = absurd (let wrong = e in cc)
or_false false b e = (refl, e)

none_named : (name : List ℕ) (names : List Named) → list_any (λ (named : Named). bytes_eq named.name name) names ≡ false → named_by name names ≡ 0
none_named name [] e = refl
none_named name (x ∷ names) e =
    let parts = or_false (bytes_eq x.name name) (list_any (λ (named : Named). bytes_eq named.name name) names) e in
    let one : one_if (bytes_eq x.name name) ≡ 0 = rw parts.0 refl in
    let more = none_named name names parts.1 in
    omega (arith, one, more)

none_reserved : (name : List ℕ) (calls : List UnderWay) → list_any (λ (call : UnderWay). reserves name call.phase) calls ≡ false → reserved_by name calls ≡ 0
none_reserved name [] e = refl
none_reserved name (x ∷ calls) e =
    let parts = or_false (reserves name x.phase) (list_any (λ (call : UnderWay). reserves name call.phase) calls) e in
    let one : one_if (reserves name x.phase) ≡ 0 = rw parts.0 refl in
    let more = none_reserved name calls parts.1 in
    omega (arith, one, more)

none_weakly : (name : List ℕ) (calls : List UnderWay) → list_any (λ (call : UnderWay). reserves_weakly name call.phase) calls ≡ false → weak_reserved_by name calls ≡ 0
none_weakly name [] e = refl
none_weakly name (x ∷ calls) e =
    let parts = or_false (reserves_weakly name x.phase) (list_any (λ (call : UnderWay). reserves_weakly name call.phase) calls) e in
    let one : one_if (reserves_weakly name x.phase) ≡ 0 = rw parts.0 refl in
    let more = none_weakly name calls parts.1 in
    omega (arith, one, more)

-- a name that isn't taken
untaken : (world : World) (name : List ℕ) → is_taken name world ≡ false → (named_by name world.names ≡ 0) × (reserved_by name world.calls ≡ 0)
untaken world name e =
    let parts = or_false (list_any (λ (named : Named). bytes_eq named.name name) world.names) (list_any (λ (call : UnderWay). reserves name call.phase) world.calls) e in
    (none_named name world.names parts.0, none_reserved name world.calls parts.1)

load_begins : (world : World) (cell : Cell Numbered) (name : List ℕ) → AllInUse world → is_taken name world ≡ false → BeginsOk world cell (Load name) (Takes (phase.Load name))
load_begins world cell name h e =
    let t = untaken world name e in
    (load_open world.words world.names world.weak_names (store_of world) world.calls name t.0 t.1 h, λ p. absurd p)

drop_begins : (world : World) (cell : Cell Numbered) (name : List ℕ) (o : Option ℕ) → owner_of name world.names ≡ o → AllInUse world → BeginsOk world cell (Drop name) (drop_start world.calls o)
drop_begins world cell name None e h = tt
drop_begins world cell name (Some owner) e h =
    begins_if world cell (Drop name) (is_used world.calls owner) _ _ (λ used. tt)
    (λ unused. (drop_open world.words world.names world.weak_names (store_of world) world.calls name owner e h, λ p. absurd p))

fade_begins : (world : World) (cell : Cell Numbered) (name : List ℕ) (o : Option ℕ) → owner_of name world.weak_names ≡ o → AllInUse world → BeginsOk world cell (Fade name) (fade_start world.calls o)
fade_begins world cell name None e h = tt
fade_begins world cell name (Some owner) e h =
    begins_if world cell (Fade name) (is_used world.calls owner) _ _ (λ used. tt)
    (λ unused. (fade_open world.words world.names world.weak_names (store_of world) world.calls name owner e h, λ p. absurd p))

copy_begins : (world : World) (cell : Cell Numbered) (given name : List ℕ) (o : Option ℕ) → AllInUse world → is_taken name world ≡ false → BeginsOk world cell (Copy given name) (copy_start name o)
copy_begins world cell given name None h e = tt
copy_begins world cell given name (Some owner) h e =
    let t = untaken world name e in
    (raise_open world.words world.names world.weak_names (store_of world) world.calls name owner t.0 t.1 h, λ p. absurd p)

up_begins : (world : World) (cell : Cell Numbered) (weak name : List ℕ) (o : Option ℕ) → AllInUse world → is_taken name world ≡ false → BeginsOk world cell (Up weak name) (up_start world.calls name o)
up_begins world cell weak name None h e = tt
up_begins world cell weak name (Some owner) h e =
    let t = untaken world name e in
    begins_if world cell (Up weak name) (is_used world.calls owner) _ _ (λ used. tt)
    (λ unused. (look_open world.words world.names world.weak_names (store_of world) world.calls name owner t.0 t.1 h, λ p. absurd p))

weak_begins : (world : World) (cell : Cell Numbered) (given name : List ℕ) (o : Option ℕ) → AllInUse world → (is_taken_weakly name world || is_barred world.calls) ≡ false → BeginsOk world cell (Weak given name) (weak_start name o)
weak_begins world cell given name None h e = tt
weak_begins world cell given name (Some owner) h e =
    let taken = (or_false (is_taken_weakly name world) (is_barred world.calls) e).0 in
    let parts = or_false (list_any (λ (named : Named). bytes_eq named.name name) world.weak_names) (list_any (λ (call : UnderWay). reserves_weakly name call.phase) world.calls) taken in
    (note_open world.words world.names world.weak_names (store_of world) world.calls name owner (none_named name world.weak_names parts.0) (none_weakly name world.calls parts.1) h, λ p. absurd p)

-- calls that take no step
abbrev IsStill : Start → Type 0
IsStill Refused = Unit {0}
IsStill (Answers given) = Unit {0}
IsStill (Takes at) = ⊥

still_if : (test : Bool) (one two : Start) → IsStill one → IsStill two → IsStill (if test then one else two)
still_if true one two a b = a
still_if false one two a b = b

still_begins : (world : World) (cell : Cell Numbered) (call : Call) (how : Start) → IsStill how → BeginsOk world cell call how
still_begins world cell call Refused s = tt
still_begins world cell call (Answers given) s = tt
still_begins world cell call (Takes at) s = absurd s

ask_still : (zone : Option (List Record)) (request : List ℕ) → IsStill (ask_start zone request)
ask_still None request = tt
ask_still (Some zone) request = still_if (asks_update (reads request) || asks_sent Udp zone (reads request)) _ _ tt tt

seek_begins : (world : World) (cell : Cell Numbered) (name request : List ℕ) (sending : Sending) (owners : List ℕ) → AllInUse world → BeginsOk world cell (Transfer name request) (seek_start world.words sending owners)
seek_begins world cell name request sending [] h = tt
seek_begins world cell name request sending (owner ∷ left) h =
    begins_if world cell (Transfer name request) (nat_le (world.words.granted + length (owner ∷ left)) grants) _ _
    (λ e. (seek_open world.words world.names world.weak_names (store_of world) world.calls owner sending left h, λ p. absurd p)) (λ e. tt)

asked_begins : (world : World) (cell : Cell Numbered) (name request : List ℕ) (sending : Sending) (query : QueryAsked) → AllInUse world → BeginsOk world cell (Transfer name request) (transfer_asked world sending query)
asked_begins world cell name request sending query h =
    begins_if world cell (Transfer name request) (not (is_permitted sending.version.zone (peer_over Tcp true) query)) _ _ (λ e. tt)
    (λ e. begins_if world cell (Transfer name request) (is_some query.serial && is_barred world.calls) _ _ (λ f. tt)
    (λ f. seek_begins world cell name request sending (later sending.version.number query.serial world.entries) h))

said_begins : (world : World) (cell : Cell Numbered) (name request : List ℕ) (sending : Sending) (said : Parsed) → AllInUse world → BeginsOk world cell (Transfer name request) (transfer_said world sending said)
said_begins world cell name request sending parsed.Silent h = tt
said_begins world cell name request sending (parsed.Fault head code) h = tt
said_begins world cell name request sending (parsed.BadOpt head question code dnssec_ok) h = tt
said_begins world cell name request sending (parsed.Query query) h = asked_begins world cell name request sending query h
said_begins world cell name request sending (parsed.Update update) h = tt
said_begins world cell name request sending (parsed.NoMemory head) h = tt

of_begins : (world : World) (cell : Cell Numbered) (name request : List ℕ) (owner : ℕ) (version : Option Numbered) → AllInUse world → BeginsOk world cell (Transfer name request) (transfer_of world owner request version)
of_begins world cell name request owner None h = tt
of_begins world cell name request owner (Some version) h = said_begins world cell name request (none_got owner version request) (reads request) h

transfer_begins : (world : World) (cell : Cell Numbered) (name request : List ℕ) (owner : Option ℕ) → AllInUse world → BeginsOk world cell (Transfer name request) (transfer_start world request owner)
transfer_begins world cell name request None h = tt
transfer_begins world cell name request (Some owner) h = of_begins world cell name request owner (found_by world.words owner) h

-- an update that makes a version has room for its number
has_room : (last : Numbered) (request : List ℕ) (what : Judged) → judged last request ≡ Some what → last.number + 1 < 2 ^ 64
has_room last request what e =
    elim (cases_Bool (nat_lt (last.number + 1) (2 ^ 64))) [
      | inl less ↦ ltb-true (last.number + 1) (2 ^ 64) less
      | inr isnt ↦ absurd (none_some (judged last request) what (none_judged last request isnt) e)
    ]
  where
    none_judged : (last : Numbered) (request : List ℕ) → nat_lt (last.number + 1) (2 ^ 64) ≡ false → judged last request ≡ None
    none_judged last request isnt = rw isnt refl

    none_some : (o : Option Judged) (what : Judged) → o ≡ None → o ≡ Some what → ⊥
    none_some o what n s = let wrong : None ≡ Some what = sym n ∙ s in cc

-- a version is entered where there is a window
enters_if : (size serial : ℕ) → is_some (enters size serial) ≡ nat_lt 0 size
enters_if size serial = elim (cases_Bool (nat_lt 0 size)) [ inl some ↦ rw some refl | inr none ↦ rw none refl ]

publication_begins : (world : World) (cell : Cell Numbered) (request : List ℕ) (head : Heading) (version : Numbered) → any_update world.calls ≡ false → length cell.published < 2 ^ 64 → AllInUse world → BeginsOk world cell (Update request) (publication_start world head version)
publication_begins world cell request head version none few h =
    begins_if world cell (Update request) (nat_lt world.words.granted grants && is_held world.words (oldest_kept world.keep world.kept) && can_enter world.words world.window) _ _
    (λ e. (update_open world.words world.names world.weak_names (store_of world) world.calls version (keeping_for world head version) (refl, refl, enters_if world.window (zone_serial version.zone)) none h, λ p. few)) (λ e. tt)

judged_begins : (S : Script) (first : List Record) (world : World) (request : List ℕ) (last : Numbered) (what : Option Judged) (g : Goes S first world) → judged last request ≡ what → found_last world.words ≡ Some last → any_update world.calls ≡ false → AllInUse world
    → BeginsOk world g.tells.cell (Update request) (update_start world what)
judged_begins S first world request last None g is found none h = tt
judged_begins S first world request last (Some (judgement.Code head code)) g is found none h = tt
judged_begins S first world request last (Some (judgement.Makes head version)) g is found none h =
    let room = has_room last request (judgement.Makes head version) is in
    let l = last_replay S first world.words g.us last g.tells found in
    publication_begins world g.tells.cell request head version none (omega (arith, room, l.0, g.tells.replays.counted)) h

found_begins : (S : Script) (first : List Record) (world : World) (request : List ℕ) (o : Option Numbered) (g : Goes S first world) → found_last world.words ≡ o → any_update world.calls ≡ false → AllInUse world
    → BeginsOk world g.tells.cell (Update request) (update_start world (option_and_then (λ last. judged last request) o))
found_begins S first world request None g found none h = tt
found_begins S first world request (Some last) g found none h = judged_begins S first world request last (judged last request) g refl found none h

pub start_begins : (S : Script) (first : List Record) (world : World) (call : Call) (g : Goes S first world) → AllInUse world → BeginsOk world g.tells.cell call (start world call)
start_begins S first world (Load name) g h = begins_if world g.tells.cell (Load name) (is_taken name world) _ _ (λ e. tt) (λ e. load_begins world g.tells.cell name h e)
start_begins S first world (Drop name) g h = drop_begins world g.tells.cell name (owner_of name world.names) refl h
start_begins S first world (Copy given name) g h = begins_if world g.tells.cell (Copy given name) (is_taken name world) _ _ (λ e. tt) (λ e. copy_begins world g.tells.cell given name (owner_of given world.names) h e)
start_begins S first world (Weak given name) g h = begins_if world g.tells.cell (Weak given name) (is_taken_weakly name world || is_barred world.calls) _ _ (λ e. tt) (λ e. weak_begins world g.tells.cell given name (owner_of given world.names) h e)
start_begins S first world (Fade name) g h = fade_begins world g.tells.cell name (owner_of name world.weak_names) refl h
start_begins S first world (Up weak name) g h = begins_if world g.tells.cell (Up weak name) (is_taken name world) _ _ (λ e. tt) (λ e. up_begins world g.tells.cell weak name (owner_of weak world.weak_names) h e)
start_begins S first world (Ask name request) g h = still_begins world g.tells.cell (Ask name request) _ (ask_still (zone_of name world) request)
start_begins S first world (Transfer name request) g h = transfer_begins world g.tells.cell name request (owner_of name world.names) h
start_begins S first world (Update request) g h =
    begins_if world g.tells.cell (Update request) (is_barred world.calls) _ _ (λ e. tt) (λ none. found_begins S first world request (found_last world.words) g refl (unbarred world.calls none) h)

-- the window's weak owners, while no update has them in hand
lives_few : (o : Option Owner) → lives o ≤ 1
lives_few None = omega arith
lives_few (Some (Holding number place)) = omega arith
lives_few (Some (Burying place)) = omega arith
lives_few (Some (Twice number place)) = omega arith
lives_few (Some (Weakly number place)) = omega arith
lives_few (Some (Both number place)) = omega arith
lives_few (Some (Fading place)) = omega arith
lives_few (Some (Resetting place)) = omega arith
lives_few (Some (Freeing place)) = omega arith
lives_few (Some Spent) = omega arith

none_apart : (owner total : ℕ) (entries : List Entry) → times owner (window_uses total entries) ≡ 0 → IsApart owner (owners_in entries)
none_apart owner total [] none = tt
none_apart owner total (x ∷ entries) none = (
  λ e. (let one : one_if (x.owner == owner) ≡ 1 = elim (eqb_tells x.owner owner) [ inl same ↦ rw same.0 refl | inr other ↦ absurd (other.1 e) ] in absurd (omega (arith, none, one))),
  none_apart owner total entries (omega (arith, none)),
)

weak_all : (owners : List Owner) (total : ℕ) (entries : List Entry) → AllFit owners (window_uses total entries) → ((i : ℕ) → times i (window_uses total entries) ≤ 1) → AreAll Weakly owners (owners_in entries)
weak_all owners total [] fits few = tt
weak_all owners total (x ∷ entries) fits few =
    let once = few x.owner in
    let one : one_if (x.owner == x.owner) ≡ 1 = elim (eqb_tells x.owner x.owner) [ inl same ↦ rw same.0 refl | inr other ↦ absurd (other.1 refl) ] in
    ((x.number, fits.0.1, fits.0.2), none_apart x.owner total entries (omega (arith, once, one)), weak_all owners total entries fits.1 (λ i. (let less = few i in omega (arith, less))))

pub entries_ok : (world : World) → AllInUse world → length world.entries ≤ 16 → EntriesIf world
entries_ok world h few e =
    let none = unbarred world.calls e in
    let s = rw none at h.in_use in
    let kept_ones = kept_uses h.from world.kept in
    let window = window_uses (h.from + length world.kept) world.entries in
    let all = fits_four world.words.owners [] (both_uses world.names world.weak_names) (kept_ones ++ window) (call_uses h.last h.from (stays_of (store_of world)) world.calls) s.fit in
    record {
      weak = weak_all world.words.owners (h.from + length world.kept) world.entries (fit_back world.words.owners kept_ones window all.2)
          (λ i. (
          let four = times_four i [] (both_uses world.names world.weak_names) (kept_ones ++ window) (call_uses h.last h.from (stays_of (store_of world)) world.calls) in
          let two = times_append i kept_ones window in
          let exact = s.exact i in
          let less = lives_few (slice_get world.words.owners i) in
          omega (arith, four, two, exact, less)
          ));
      few = few;
    }

-- a world behind a line, where that is played
abbrev pub InUseAfter : Option (WorldReply × World) → Type 0
InUseAfter o = (given : WorldReply) (world : World) → o ≡ Some (given, world) → AllInUse world

to_some : (played : WorldReply × World) → AllInUse played.1 → InUseAfter (Some played)
to_some played h given world e =
    let pair : played ≡ (given, world) = (let i = e in cc) in
    subst (λ (w : World). AllInUse w) (ap (λ (p : WorldReply × World). p.1) pair) h

to_none : InUseAfter None
to_none given world e = absurd (let wrong = e in cc)

to_if : (test : Bool) (one two : Option (WorldReply × World)) → InUseAfter one → InUseAfter two → InUseAfter (if test then one else two)
to_if true one two a b = a
to_if false one two a b = b

made_in_use : (world : World) (call : Call) (came : Progress × Zones) → AllInUse world → Unchanged world.words came → Open came.1 (given_up call world.names) (weak_given_up call world.weak_names) (store_of world) world.calls came.0 → AllInUse (all_made world call came).1
made_in_use world call (On at, words) h same o = subst (λ (w : Zones). Open w world.names world.weak_names (store_of world) world.calls nothing_apart) (sym same) h
made_in_use world call (Done end, words) h same o = closed words (given_up call world.names) (weak_given_up call world.weak_names) (store_of world) world.calls end o

whole_in_use : (world : World) (cell : Cell Numbered) (call : Call) (how : Start) → AllInUse world → Shows world.words cell → FirstOf world.words how → BeginsOk world cell call how → InUseAfter (whole world call how)
whole_in_use world cell call Refused h s is ok = to_some _ h
whole_in_use world cell call (Answers given) h s is ok = to_if (is_full world) _ _ to_none (to_some _ h)
whole_in_use world cell call (Takes at) h s is ok =
    to_if (is_full world) _ _ to_none
    (to_some _ (made_in_use world call (steps_up_to most_steps world.words at) h
    (first_by world.words cell at (step_once world.words at) refl is s ok.1)
    (many_open most_steps (given_up call world.names) (weak_given_up call world.weak_names) (store_of world) world.calls world.words at ok.0)))

none_called : (name : List ℕ) (calls : List UnderWay) → call_of name calls ≡ None → called name calls ≡ 0
none_called name [] e = refl
none_called name (x ∷ calls) e =
    elim (cases_Bool (bytes_eq x.name name)) [
      | inl same ↦ (let f = rw same at e in absurd (let wrong = f in cc))
      | inr other ↦ (
          let one : one_if (bytes_eq x.name name) ≡ 0 = rw other refl in
          let more = none_called name calls (rw other at e) in
          omega (arith, one, more)
          )
    ]

-- a call goes to the end of those under way
to_calls : (words : Zones) (names weaks : List Named) (store : Store) (calls : List UnderWay) (name : List ℕ) (at : Phase) → called name calls ≡ 0 → Open words names weaks store calls (On at) → Open words names weaks store (calls ++ record { name = name; phase = at } ∷ []) nothing_apart
to_calls words names weaks store calls name at none o =
    let e = append-nil calls in
    put_back words names weaks store calls [] (record { name = name; phase = at }) (ap (called name) e ∙ none) (subst (λ cs. Open words names weaks store cs (On at)) (sym e) o)

begin_in_use : (world : World) (cell : Cell Numbered) (name : List ℕ) (call : Call) (how : Start) → call_of name world.calls ≡ None → AllInUse world → BeginsOk world cell call how → InUseAfter (begin_call world name call how)
begin_in_use world cell name call Refused none h ok = to_some _ h
begin_in_use world cell name call (Answers given) none h ok = to_if (is_full world) _ _ to_none (to_some _ h)
begin_in_use world cell name call (Takes at) none h ok =
    to_if (is_full world) _ _ to_none (to_some _ (to_calls world.words (given_up call world.names) (weak_given_up call world.weak_names) (store_of world) world.calls name at (none_called name world.calls none) ok.0))

under_in_use : (S : Script) (first : List Record) (world : World) (name : List ℕ) (call : Call) (other : Option UnderWay) → call_of name world.calls ≡ other → Goes S first world → AllInUse world → InUseAfter (begin_under world name call other)
under_in_use S first world name call None e g h = begin_in_use world g.tells.cell name call (start world call) e h (start_begins S first world call g h)
under_in_use S first world name call (Some other) e g h = to_some _ h

-- the call of a name, apart from the others
apart : (world : World) (name : List ℕ) (call : UnderWay) → Among name world.calls call → AllInUse world → Open world.words world.names world.weak_names (store_of world) (without_call name world.calls) (On call.phase)
apart world name call a h =
    subst (λ cs. Open world.words world.names world.weak_names (store_of world) cs (On call.phase)) (sym a.rest)
    (taken_out world.words world.names world.weak_names (store_of world) a.front a.back call (subst (λ cs. Open world.words world.names world.weak_names (store_of world) cs nothing_apart) a.whole h))

stepped_in_use : (world : World) (name : List ℕ) (call : UnderWay) (o : Option (Progress × Zones)) → call_of name world.calls ≡ Some call → step_once world.words call.phase ≡ o → AllInUse world → AllInUse (stepped world name call.phase o).1
stepped_in_use world name call None found is h = h
stepped_in_use world name call (Some (On further, words)) found is h =
    let a = among name world.calls call (h.calls_once name) found in
    to_calls words world.names world.weak_names (store_of world) (without_call name world.calls) name further (ap (called name) a.rest ∙ a.none)
    (step_open world.words words world.names world.weak_names (store_of world) (without_call name world.calls) call.phase (On further) is (apart world name call a h))
stepped_in_use world name call (Some (Done end, words)) found is h =
    let a = among name world.calls call (h.calls_once name) found in
    closed words world.names world.weak_names (store_of world) (without_call name world.calls) end
    (step_open world.words words world.names world.weak_names (store_of world) (without_call name world.calls) call.phase (Done end) is (apart world name call a h))

next_in_use : (world : World) (name : List ℕ) (o : Option UnderWay) → call_of name world.calls ≡ o → AllInUse world → AllInUse (next world name o).1
next_in_use world name None found h = h
next_in_use world name (Some call) found h = stepped_in_use world name call (step_once world.words call.phase) found refl h

pub turn_in_use : (S : Script) (first : List Record) (world : World) (line : Line) → Goes S first world → AllInUse world → length world.entries ≤ 16 → InUseAfter (turn world line)
turn_in_use S first world (Whole call) g h few = whole_in_use world g.tells.cell call (start world call) h g.tells.shows (start_first world call (entries_ok world h few)) (start_begins S first world call g h)
turn_in_use S first world (Begin name call) g h few = under_in_use S first world name call (call_of name world.calls) refl g h
turn_in_use S first world (Next name) g h few = to_some _ (next_in_use world name (call_of name world.calls) refl h)

-- an update leaves no more entries than there can be
entered_few : (size : ℕ) (entries : List Entry) (entry : Entry) → size ≤ 16 → length (entered size entries entry) ≤ 16
entered_few size [] entry less = omega arith
entered_few size (e ∷ entries) entry less =
    elim (cases_Bool (fits size (serials_in (e ∷ entries) ++ entry.serial.0 ∷ []))) [
      | inl fit ↦ rw fit (
          let count = ltb-true (length (serials_in entries ++ entry.serial.0 ∷ [])) size (first_holds (nat_lt (length (serials_in entries ++ entry.serial.0 ∷ [])) size) (nat_lt (span e.serial.0 (serials_in entries ++ entry.serial.0 ∷ [])) (2 ^ 31)) fit) in
          let one = length-append (serials_in entries) (entry.serial.0 ∷ []) in
          let same : length (serials_in entries) ≡ length entries = length-map entries (λ (x : Entry). x.serial.0) in
          let two = length-append (e ∷ entries) (entry ∷ []) in
          omega (arith, less, count, one, same, two)
          )
      | inr some ↦ rw some (entered_few size entries entry less)
    ]
  where
    first_holds : (a b : Bool) → (a && b) ≡ true → a ≡ true
    first_holds true b e = refl
    first_holds false b e = absurd (let wrong = e in cc)

few_at : (size : ℕ) (end : End) (entries : List Entry) → size ≤ 16 → length entries ≤ 16 → length (entries_at size end entries) ≤ 16
few_at size (Owned name owner number) entries less few = few
few_at size (OwnedWeakly name owner number) entries less few = few
few_at size (Replied given) entries less few = few
few_at size (NoSlot head) entries less few = few
few_at size (Published head owner None) entries less few = few
few_at size (Published head owner (Some entry)) entries less few = entered_few size entries entry less
few_at size (Sent sending) entries less few = few

-- how many versions are kept, and how many entries the window has at most, stays
abbrev pub Same : World → World → Type 0
Same world other = (other.keep ≡ world.keep) × (other.window ≡ world.window) × (world.window ≤ 16 → length world.entries ≤ 16 → length other.entries ≤ 16)

abbrev SameBehind : World → Option (WorldReply × World) → Type 0
SameBehind world o = (given : WorldReply) (other : World) → o ≡ Some (given, other) → Same world other

same_some : (world : World) (played : WorldReply × World) → Same world played.1 → SameBehind world (Some played)
same_some world played s given other e =
    let pair : played ≡ (given, other) = (let i = e in cc) in
    subst (λ (w : World). Same world w) (ap (λ (p : WorldReply × World). p.1) pair) s

same_none : (world : World) → SameBehind world None
same_none world given other e = absurd (let wrong = e in cc)

same_if : (world : World) (test : Bool) (one two : Option (WorldReply × World)) → SameBehind world one → SameBehind world two → SameBehind world (if test then one else two)
same_if world true one two a b = a
same_if world false one two a b = b

made_same : (world : World) (call : Call) (came : Progress × Zones) → Same world (all_made world call came).1
made_same world call (On at, words) = (refl, refl, λ less few. few)
made_same world call (Done end, words) = (refl, refl, λ less few. few_at world.window end world.entries less few)

whole_same : (world : World) (call : Call) (how : Start) → SameBehind world (whole world call how)
whole_same world call Refused = same_some world _ (refl, refl, λ less few. few)
whole_same world call (Answers given) = same_if world (is_full world) _ _ (same_none world) (same_some world _ (refl, refl, λ less few. few))
whole_same world call (Takes at) = same_if world (is_full world) _ _ (same_none world) (same_some world _ (made_same world call (steps_up_to most_steps world.words at)))

begin_same : (world : World) (name : List ℕ) (call : Call) (how : Start) → SameBehind world (begin_call world name call how)
begin_same world name call Refused = same_some world _ (refl, refl, λ less few. few)
begin_same world name call (Answers given) = same_if world (is_full world) _ _ (same_none world) (same_some world _ (refl, refl, λ less few. few))
begin_same world name call (Takes at) = same_if world (is_full world) _ _ (same_none world) (same_some world _ (refl, refl, λ less few. few))

under_same : (world : World) (name : List ℕ) (call : Call) (other : Option UnderWay) → SameBehind world (begin_under world name call other)
under_same world name call None = begin_same world name call (start world call)
under_same world name call (Some other) = same_some world _ (refl, refl, λ less few. few)

stepped_same : (world : World) (name : List ℕ) (at : Phase) (o : Option (Progress × Zones)) → Same world (stepped world name at o).1
stepped_same world name at None = (refl, refl, λ less few. few)
stepped_same world name at (Some (On further, words)) = (refl, refl, λ less few. few)
stepped_same world name at (Some (Done end, words)) = (refl, refl, λ less few. few_at world.window end world.entries less few)

next_same : (world : World) (name : List ℕ) (o : Option UnderWay) → Same world (next world name o).1
next_same world name None = (refl, refl, λ less few. few)
next_same world name (Some call) = stepped_same world name call.phase (step_once world.words call.phase)

pub turn_same : (world : World) (line : Line) → SameBehind world (turn world line)
turn_same world (Whole call) = whole_same world call (start world call)
turn_same world (Begin name call) = under_same world name call (call_of name world.calls)
turn_same world (Next name) = same_some world _ (next_same world name (call_of name world.calls))

-- a world whose versions are replays, with all that is in hand
pub record Kept (S : Script) (first : List Record) (begun_as world : World) : Type 0 where
  pub goes : Goes S first world
  pub all_in_use : AllInUse world
  pub same : Same begun_as world

abbrev pub KeptOn : (ℕ → List ℕ → Type 0) → List Record → World → World → Type 0
KeptOn sends first begun_as world = (top : ℕ) × Kept (script sends top) first begun_as world

rest_kept : (sends : ℕ → List ℕ → Type 0) (first : List Record) (begun_as : World) (lines : List Line) (given : WorldReply) (world behind : World) (replies : List WorldReply) (o : Option (List WorldReply × World)) → play world lines ≡ o
    → ((replies : List WorldReply) (behind : World) → play world lines ≡ Some (replies, behind) → KeptOn sends first begun_as behind) → onto_replies given o ≡ Some (replies, behind) → KeptOn sends first begun_as behind
rest_kept sends first begun_as lines given world behind replies None p all e = absurd (let wrong = e in cc)
rest_kept sends first begun_as lines given world behind replies (Some rest) p all e =
    let pair : (given ∷ rest.0, rest.1) ≡ (replies, behind) = (let i = e in cc) in
    subst (λ (w : World). KeptOn sends first begun_as w) (ap (λ (t : List WorldReply × World). t.1) pair) (all rest.0 rest.1 p)

line_kept : (sends : ℕ → List ℕ → Type 0) (top : ℕ) (first : List Record) (begun_as : World) (world behind : World) (lines : List Line) (replies : List WorldReply) (o : Option (WorldReply × World)) → ((given : WorldReply) (between : World) → o ≡ Some (given, between) → Kept (script sends top) first begun_as between)
    → ((given : WorldReply) (world : World) → Kept (script sends top) first begun_as world → (replies : List WorldReply) (behind : World) → play world lines ≡ Some (replies, behind) → KeptOn sends first begun_as behind)
    → option_and_then (λ t. onto_replies t.0 (play t.1 lines)) o ≡ Some (replies, behind) → KeptOn sends first begun_as behind
line_kept sends top first begun_as world behind lines replies None g all e = absurd (let wrong = e in cc)
line_kept sends top first begun_as world behind lines replies (Some t) g all e =
    rest_kept sends first begun_as lines t.0 t.1 behind replies (play t.1 lines) refl (all t.0 t.1 (g t.0 t.1 refl)) e

play_kept : (sends : ℕ → List ℕ → Type 0) (top : ℕ) (first : List Record) (begun_as : World) → begun_as.window ≤ 16 → length begun_as.entries ≤ 16 → (world : World) (lines : List Line) (replies : List WorldReply) (behind : World) → AllSent sends top lines → Kept (script sends top) first begun_as world → play world lines ≡ Some (replies, behind) → KeptOn sends first begun_as behind
play_kept sends top first begun_as less few world [] replies behind sent k e =
    let pair : ([], world) ≡ (replies, behind) = (let i = e in cc) in
    subst (λ (w : World). KeptOn sends first begun_as w) (ap (λ (t : List WorldReply × World). t.1) pair) (top, k)
play_kept sends top first begun_as less few world (line ∷ lines) replies behind sent k e =
    line_kept sends (top + 1) first begun_as world behind lines replies (turn world line)
    (λ given between is. record {
      goes = turn_goes sends top first world line sent.0 k.goes given between is;
      all_in_use = turn_in_use (script sends top) first world line k.goes k.all_in_use (k.same.2 less few) given between is;
      same = (let s = turn_same world line given between is in (s.0 ∙ k.same.0, s.1 ∙ k.same.1, λ l f. s.2 (subst (λ n. n ≤ 16) (sym k.same.1) l) (k.same.2 l f)));
    })
    (λ given between kept more last p. play_kept sends (top + 1) first begun_as less few between lines more last sent.1 kept p) e

-- at the start version 0 is kept, and entered where there is a window, and nothing else is in hand
loaded_in_use : (first : List Record) (keep window : ℕ) → nat_lt 0 window ≡ false → AllInUse (started_within first keep window)
loaded_in_use first keep window e =
    let shown = step_shows {T = Numbered} (begun (first_version first)) (loaded_once (first_version first)) word.Load (reported.Loaded 0 0) (cell_start (first_version first)) (begun_shows (first_version first)) (0, refl, lit< tt, refl, refl) in
    rw e (record {
      cell = shown.0;
      shows = shown.2;
      last = 0;
      from = 0;
      settled = 1;
      counted = ap (λ (c : Cell Numbered). length c.published) shown.1.3;
      swapped = refl;
      kept_count = refl;
      kept_from = omega arith;
      shut = λ f. refl;
      alone = λ e. refl;
      one = tt;
      still = tt;
      stills = tt;
      in_use = record { fit = ((0, refl), tt); exact = λ i. first_exact i };
      publisher = λ e f. refl;
      names_once = λ name. omega arith;
      weak_once = λ name. omega arith;
      calls_once = λ name. omega arith;
    })
  where
    first_exact : (i : ℕ) → times i (use_of 0 (has 0) ∷ []) ≡ lives (slice_get (Holding 0 0 ∷ []) i)
    first_exact zero = refl
    first_exact (suc i) = let none = other_equal 0 (suc i) (λ e. absurd (omega (arith, e))) in omega (arith, none)

noted_in_use : (first : List Record) (keep window : ℕ) → nat_lt 0 window ≡ true → AllInUse (started_within first keep window)
noted_in_use first keep window e =
    let once = step_shows {T = Numbered} (begun (first_version first)) (loaded_once (first_version first)) word.Load (reported.Loaded 0 0) (cell_start (first_version first)) (begun_shows (first_version first)) (0, refl, lit< tt, refl, refl) in
    let shown = step_shows {T = Numbered} (loaded_once (first_version first)) (noted_once (first_version first)) (word.Note 0) (reported.Noted 1 0) once.0 once.2 (0, 0, first_slot (first_version first), refl, refl, lit< tt, refl, refl) in
    let same : shown.0.published ≡ once.0.published = publishes_nothing (loaded_once (first_version first)) (noted_once (first_version first)) (word.Note 0) (reported.Noted 1 0) once.0 shown.0 tt (0, 0, first_slot (first_version first), refl, refl, lit< tt, refl, refl) shown.1 in
    rw e (record {
      cell = shown.0;
      shows = shown.2;
      last = 0;
      from = 0;
      settled = 1;
      counted = ap length same ∙ ap (λ (c : Cell Numbered). length c.published) once.1.3;
      swapped = refl;
      kept_count = refl;
      kept_from = omega arith;
      shut = λ f. absurd (let wrong = f in cc);
      alone = λ e. refl;
      one = tt;
      still = tt;
      stills = tt;
      in_use = record { fit = ((0, refl), ((omega arith, 0, refl), tt)); exact = λ i. first_exact i };
      publisher = λ e f. refl;
      names_once = λ name. omega arith;
      weak_once = λ name. omega arith;
      calls_once = λ name. omega arith;
    })
  where
    first_exact : (i : ℕ) → times i (use_of 0 (has 0) ∷ (use_of 1 (notes 0 1 1) ∷ [])) ≡ lives (slice_get (Holding 0 0 ∷ (Weakly 0 0 ∷ [])) i)
    first_exact zero = refl
    first_exact (suc zero) = refl
    first_exact (suc (suc i)) =
        let none = other_equal 0 (suc (suc i)) (λ e. absurd (omega (arith, e))) in
        let nor = other_equal 1 (suc (suc i)) (λ e. absurd (omega (arith, e))) in
        omega (arith, none, nor)

started_by : (first : List Record) (keep window : ℕ) (some : Bool) → nat_lt 0 window ≡ some → AllInUse (started_within first keep window)
started_by first keep window true e = noted_in_use first keep window e
started_by first keep window false e = loaded_in_use first keep window e

pub started_in_use : (first : List Record) (keep window : ℕ) → AllInUse (started first keep window)
started_in_use first keep window = started_by first keep (min window most_entries) (nat_lt 0 (min window most_entries)) refl

pub started_less : (first : List Record) (keep window : ℕ) → (started first keep window).window ≤ 16
started_less first keep window = omega arith

few_by : (first : List Record) (window : ℕ) (some : Bool) → nat_lt 0 window ≡ some → length (first_entries first window) ≤ 16
few_by first window true e = rw e (omega arith)
few_by first window false e = rw e (omega arith)

pub started_few : (first : List Record) (keep window : ℕ) → length (started first keep window).entries ≤ 16
started_few first keep window = few_by first (min window most_entries) (nat_lt 0 (min window most_entries)) refl

pub played_kept : (first : List Record) (keep window : ℕ) (lines : List Line) (replies : List WorldReply) (world : World) → play (started first keep window) lines ≡ Some (replies, world) → KeptOn (IsSentAt lines) first (started first keep window) world
played_kept first keep window lines replies world e =
    play_kept (IsSentAt lines) 0 first (started first keep window) (started_less first keep window) (started_few first keep window) (started first keep window) lines replies world (all_sent lines)
    (record { goes = start_goes (script (IsSentAt lines) 0) first keep window; all_in_use = started_in_use first keep window; same = (refl, refl, λ less few. few) }) e

-- whatever lines were played, a line that isn't enabled changes nothing
pub played_refusal : (first : List Record) (keep window : ℕ) (lines : List Line) (replies : List WorldReply) (world after_line : World) (line : Line) (cell : Cell Numbered) → play (started first keep window) lines ≡ Some (replies, world)
    → Shows world.words cell → length cell.published < 2 ^ 64 → turn world line ≡ Some (NotEnabled, after_line) → after_line ≡ world
played_refusal first keep window lines replies world after_line line cell e s few_published refused =
    let k = played_kept first keep window lines replies world e in
    turn_refusal world after_line line cell (entries_ok world k.1.all_in_use (k.1.same.2 (started_less first keep window) (started_few first keep window))) s few_published refused
