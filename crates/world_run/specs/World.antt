-- Zone versions in the words of a cell, the names of their strong owners, the versions that are kept, and the calls under way:
-- the world after each line of a script, and the line's reply (own).
use Rattle.std.specs.Prelude.{ℕ, zero, suc, ◌+◌, min, Bool, true, false, not, ◌||◌, ◌&&◌, is_some, nat_le, nat_lt, List, [], ◌∷◌, ◌++◌, length, bytes_eq, filter, find, remove, Option, Some, None, if◌then◌else◌}
use Rattle.std.specs.List.{list_any, slice_get, slice_set, flat_map}
use Rattle.std.specs.Option.{option_and_then, option_map, option_to_list}
use Rattle.cell_core.specs.Words.{State, grants, notes, word_of, begun, first_slot, found_by, found_last}
use Rattle.cell_core.specs.WordSteps.{with_new_owner, with_weak_word}
use Rattle.cell_core.specs.Made.{made}
use Rattle.cell_core.specs.declared.words.Owner.TheVariants.{Holding, Weakly}
use Rattle.dns_rdata.specs.declared.numbers.Rcode.{Rcode}
use Rattle.dns_rdata.specs.declared.numbers.Rcode.TheVariants.{NoError, ServFail}
use Rattle.dns_rdata.specs.Record.{Record}
use Rattle.serve_core.specs.declared.heading.Heading.{Heading}
use Rattle.dns_message.specs.declared.query.Parsed.{Parsed}
use Rattle.dns_message.specs.declared.query.Parsed.TheVariants.{Query as Asks}
use Rattle.dns_message.specs.declared.query.Query.{Query as QueryAsked}
use Rattle.dns_message.specs.Octets.{fit}
use Rattle.dns_message.specs.Request.{reads}
use Rattle.serve_core.specs.declared.transport.Transport.{Transport}
use Rattle.serve_core.specs.declared.transport.Transport.TheVariants.{Udp, Tcp}
use Rattle.serve_core.specs.Heading.{coded}
use Rattle.serve_core.specs.Served.{got_for}
use Rattle.serve_core.specs.Transfers.{peer_over, is_permitted}
use Rattle.serve_core.specs.Transport.{limit_of}
use Rattle.world_run.specs.declared.judged.Judged.{Judged}
use Rattle.world_run.specs.declared.judged.Judged.TheVariants as judgement
use Rattle.world_run.specs.declared.entries.Entry.{Entry}
use Rattle.world_run.specs.declared.sending.Sending.{Sending}
use Rattle.world_run.specs.declared.phase.Keeping.{Keeping}
use Rattle.world_run.specs.declared.phase.Phase.{Phase}
use Rattle.world_run.specs.declared.phase.Phase.TheVariants as phase
use Rattle.world_run.specs.declared.phase.Purpose.TheVariants as purpose
use Rattle.world_run.specs.declared.phase.End.{End}
use Rattle.world_run.specs.declared.phase.End.TheVariants.{Owned, OwnedWeakly, Replied, NoSlot, Kept, Sent}
use Rattle.world_run.specs.declared.phase.Progress.{Progress}
use Rattle.world_run.specs.declared.phase.Progress.TheVariants.{On, Done}
use Rattle.world_run.specs.declared.names.Named.{Named}
use Rattle.world_run.specs.declared.calls.UnderWay.{UnderWay}
use Rattle.world_run.specs.declared.start.Start.{Start}
use Rattle.world_run.specs.declared.start.Start.TheVariants.{Refused, Answers, Takes}
use Rattle.world_run.specs.declared.step.Answer.{Answer}
use Rattle.world_run.specs.declared.step.Answer.TheVariants.{Owner, Reply, Silent}
use Rattle.world_run.specs.declared.step.Call.{Call}
use Rattle.world_run.specs.declared.step.Call.TheVariants.{Load, Drop, Copy, Weak, Fade, Up, Ask, Transfer, Update}
use Rattle.world_run.specs.declared.step.StepName.{StepName}
use Rattle.world_run.specs.declared.step.WorldReply.{WorldReply}
use Rattle.world_run.specs.declared.step.WorldReply.TheVariants.{Answered, Begun, Step, Last, NotEnabled}
use Rattle.world_run.specs.declared.step.WorldStep.{WorldStep}
use Rattle.world_run.specs.declared.step.WorldStep.TheVariants.{Whole, Begin, Next}
use Rattle.world_run.specs.Judgements.{asks_update, judged}
use Rattle.zone_tree.specs.Version.{Version as Numbered, zone_serial}
use Rattle.world_run.specs.Entries.{most_entries, leaving_for, entered, enters, later}
use Rattle.world_run.specs.Numbered.{first_version}
use Rattle.world_run.specs.Phases.{word_step, step_name, after, reserves, reserves_weakly, uses, bars}
use Rattle.world_run.specs.Transfers.{sent_answer}

-- the words of a cell of zone versions; the names in use for strong owners, and for weak ones; the calls under way; how many versions are kept
-- besides the last, and their owners, the oldest first; the greatest number of entries of the window, which incremental transfers are made from
-- (RFC 1995, 5), and the entries, the oldest first (own)
pub record World : Type 0 where
  pub words : State Numbered
  pub names : List Named
  pub weak_names : List Named
  pub calls : List UnderWay
  pub keep : ℕ
  pub window : ℕ
  pub kept : List ℕ
  pub entries : List Entry

-- the words in which one version is published, and loaded once (own)
abbrev pub loaded_once : Numbered → State Numbered
loaded_once first = with_new_owner (Holding 0 0) (record (begun first) { latest = word_of 0 1; granted = 1 })

-- the words in which that version also has a weak owner (own)
abbrev pub noted_once : Numbered → State Numbered
noted_once first =
    with_new_owner (Weakly 0 0) (record (loaded_once first) { table = slice_set (loaded_once first).table 0 (with_weak_word 2 (first_slot first)); noted = 1 })

-- the words at the start: the version has a weak owner where there is a window (own)
abbrev pub started_words : Numbered → ℕ → State Numbered
started_words first window = if nat_lt 0 window then noted_once first else loaded_once first

-- the window's entries at the start (own)
abbrev pub first_entries : List Record → ℕ → List Entry
first_entries first window = if nat_lt 0 window then record { number = 0; serial = record { 0 = zone_serial first }; owner = 1 } ∷ [] else []

-- the world in which one version is published and kept, and entered where there is a window; no name is in use, and no call is under
-- way (own)
abbrev pub started_within : List Record → ℕ → ℕ → World
started_within first keep window = record {
  words = started_words (first_version first) window;
  names = [];
  weak_names = [];
  calls = [];
  keep = keep;
  window = window;
  kept = 0 ∷ [];
  entries = first_entries first window;
}

-- that world with a window of so many entries, at most the greatest number (own)
abbrev pub started : List Record → ℕ → ℕ → World
started first keep window = started_within first keep (min window most_entries)

-- the greatest number of calls under way (own)
abbrev pub most_calls : ℕ
most_calls = 64

-- no call takes more steps than this: an update has 64 probes, a prepare, a swap, a settle, a load, a note, a release, a bury, a fade, a reset and
-- a free of the owner that the publication returns and of the oldest that is kept, and a fade, a reset and a free of each entry (own)
abbrev pub most_steps : ℕ
most_steps = 127

-- the owner of a name in use; none where it isn't in use (own)
abbrev pub owner_of : List ℕ → List Named → Option ℕ
owner_of name names = option_map (λ named. named.owner) (find (λ named. bytes_eq named.name name) names)

-- the names in use without one (own)
abbrev pub without_name : List ℕ → List Named → List Named
without_name name names = filter (λ named. not (bytes_eq named.name name)) names

-- the call under way of a name; none where there is none (own)
abbrev pub call_of : List ℕ → List UnderWay → Option UnderWay
call_of name calls = find (λ call. bytes_eq call.name name) calls

-- the calls under way without the one of a name (own)
abbrev pub without_call : List ℕ → List UnderWay → List UnderWay
without_call name calls = filter (λ call. not (bytes_eq call.name name)) calls

-- a name is in use for a strong owner, or reserved by a call under way (own)
abbrev pub is_taken : List ℕ → World → Bool
is_taken name world =
    list_any (λ named. bytes_eq named.name name) world.names || list_any (λ call. reserves name call.phase) world.calls

-- the same of a weak owner (own)
abbrev pub is_taken_weakly : List ℕ → World → Bool
is_taken_weakly name world =
    list_any (λ named. bytes_eq named.name name) world.weak_names || list_any (λ call. reserves_weakly name call.phase) world.calls

-- a call under way uses an owner (own)
abbrev pub is_used : List UnderWay → ℕ → Bool
is_used calls owner = list_any (λ call. uses owner call.phase) calls

-- a call under way needs the window unchanged (own)
abbrev pub is_barred : List UnderWay → Bool
is_barred calls = list_any (λ call. bars call.phase) calls

-- the version that a name's owner has; none where the name isn't in use (own)
abbrev pub version_of : List ℕ → World → Option Numbered
version_of name world = option_and_then (found_by world.words) (owner_of name world.names)

-- its zone (own)
abbrev pub zone_of : List ℕ → World → Option (List Record)
zone_of name world = option_map (λ version. version.zone) (version_of name world)

-- the versions that are kept, the oldest first (own)
abbrev pub kept_versions : World → List Numbered
kept_versions world = flat_map (λ owner. option_to_list (found_by world.words owner)) world.kept

-- the answer to a request: octets, or no reply (own)
abbrev pub answer_of : Option (List ℕ) → Answer
answer_of None = Silent
answer_of (Some octets) = Reply octets

-- a call that takes no step begins with its answer; where there is none, it isn't enabled (own)
abbrev pub answering : Option Answer → Start
answering None = Refused
answering (Some answer) = Answers answer

-- a name is dropped where it is in use, and no call under way uses its owner (own)
abbrev pub drop_start : List UnderWay → Option ℕ → Start
drop_start calls None = Refused
drop_start calls (Some owner) = if is_used calls owner then Refused else Takes (phase.Release owner purpose.Drop)

-- likewise that of a weak owner (own)
abbrev pub fade_start : List UnderWay → Option ℕ → Start
fade_start calls None = Refused
fade_start calls (Some owner) = if is_used calls owner then Refused else Takes (phase.Fade owner None purpose.Drop)

-- another strong owner of what a name's owner has (own)
abbrev pub copy_start : List ℕ → Option ℕ → Start
copy_start name None = Refused
copy_start name (Some owner) = Takes (phase.Raise name owner)

-- a weak owner of it (own)
abbrev pub weak_start : List ℕ → Option ℕ → Start
weak_start name None = Refused
weak_start name (Some owner) = Takes (phase.Note name owner)

-- a strong owner of what a weak one has that no other call uses (own)
abbrev pub up_start : List UnderWay → List ℕ → Option ℕ → Start
up_start calls name None = Refused
up_start calls name (Some owner) = if is_used calls owner then Refused else Takes (phase.Look name owner)

-- whether a request over a transport is for a transfer that may be sent, where each peer may have it (RFC 5936, 2.2.1)
abbrev pub asks_sent : Transport → List Record → Parsed → Bool
asks_sent transport zone (Asks query) = is_permitted zone (peer_over transport true) query
asks_sent transport zone said = false

-- a request over UDP is answered in a zone, where it is no update and no question for a transfer that may be sent: it gets the reply of
-- a server that peers may update (own)
abbrev pub ask_said : List Record → Parsed → Start
ask_said zone said =
    if asks_update said || asks_sent Udp zone said then Refused else Answers (answer_of (got_for Udp true zone said).reply)

abbrev pub ask_start : Option (List Record) → List ℕ → Start
ask_start None request = Refused
ask_start (Some zone) request = ask_said zone (reads request)

-- a transfer begins with the first of the entries to upgrade, where shares are left for all of them; where there are no entries, it takes no step (own)
abbrev pub seek_start : State Numbered → Sending → List ℕ → Start
seek_start words sending [] = Answers (sent_answer sending)
seek_start words sending (owner ∷ left) =
    if nat_le (words.granted + length (owner ∷ left)) grants
    then Takes (phase.Seek owner (record { sending = sending; left = left; owners = [] }))
    else Refused

-- a question for a transfer over TCP is answered where it may be sent, with an owner's version as the one that is served; one for an incremental
-- transfer upgrades the entries after the client's serial, and isn't enabled while another call needs the window unchanged
-- (RFC 1995, 2; RFC 5936, 2.2; own)
abbrev pub transfer_asked : World → Sending → QueryAsked → Start
transfer_asked world sending query =
    if not (is_permitted sending.version.zone (peer_over Tcp true) query) then Refused
    else if is_some query.serial && is_barred world.calls then Refused
    else seek_start world.words sending (later sending.version.number query.serial world.entries)

abbrev pub transfer_said : World → Sending → Parsed → Start
transfer_said world sending (Asks query) = transfer_asked world sending query
transfer_said world sending said = Refused

-- a transfer of an owner's version, for which no version is got yet (own)
abbrev pub none_got : ℕ → Numbered → List ℕ → Sending
none_got owner version request = record { served = owner; version = version; request = request; whole = false; got = [] }

abbrev pub transfer_of : World → ℕ → List ℕ → Option Numbered → Start
transfer_of world owner request None = Refused
transfer_of world owner request (Some version) = transfer_said world (none_got owner version request) (reads request)

abbrev pub transfer_start : World → List ℕ → Option ℕ → Start
transfer_start world request None = Refused
transfer_start world request (Some owner) = transfer_of world owner request (found_by world.words owner)

-- the reply to an update: a code, and no record but an OPT (RFC 2136, 3.8; RFC 6891, 6.1.1)
abbrev pub code_reply : Heading → Rcode → Answer
code_reply heading code = Reply (fit (coded heading code) (limit_of Udp None))

-- the owner of the oldest version that is kept, where the limit of kept versions is reached (own)
abbrev pub oldest_kept : ℕ → List ℕ → Option ℕ
oldest_kept keep kept = if nat_lt keep (length kept) then slice_get kept 0 else None

-- the owner that is to be released, if any, has a version (own)
abbrev pub is_held : State Numbered → Option ℕ → Bool
is_held words None = true
is_held words (Some owner) = is_some (found_by words owner)

-- a weak owner can be made, where the window is to get an entry (own)
abbrev pub can_enter : State Numbered → ℕ → Bool
can_enter words window = not (nat_lt 0 window) || nat_lt words.noted notes

-- what an update does after its publication: it releases the oldest version that is kept, where the limit is reached, and the entries
-- that leave the window for the new one (own)
abbrev pub keeping_for : World → Heading → Numbered → Keeping
keeping_for world heading version = record {
  heading = heading;
  oldest = oldest_kept world.keep world.kept;
  enters = enters world.window (zone_serial version.zone);
  leaving = leaving_for world.window world.entries (enters world.window (zone_serial version.zone));
}

-- an update that makes a version is enabled where its steps can be made: a share is left to load the version by, the oldest that it releases
-- has a version, and the new version can be entered (own)
abbrev pub publication_start : World → Heading → Numbered → Start
publication_start world heading version =
    if nat_lt world.words.granted grants && is_held world.words (oldest_kept world.keep world.kept) && can_enter world.words world.window
    then Takes (phase.Probe version (keeping_for world heading version))
    else Refused

-- an update by its outcome: it gets a code, or it makes a version (RFC 2136, 3; own)
abbrev pub update_start : World → Option Judged → Start
update_start world None = Refused
update_start world (Some (judgement.Code heading code)) = Answers (code_reply heading code)
update_start world (Some (judgement.Makes heading version)) = publication_start world heading version

-- how a call begins: a name that is in use isn't loaded, and one that isn't is neither dropped nor asked; an update is judged in
-- the last version; while an update is under way, or entries are upgraded, no other update, no weak owner and no incremental transfer
-- begins (own)
abbrev pub start : World → Call → Start
start world (Load name) = if is_taken name world then Refused else Takes (phase.Load name)
start world (Drop name) = drop_start world.calls (owner_of name world.names)
start world (Copy given name) = if is_taken name world then Refused else copy_start name (owner_of given world.names)
start world (Weak given name) =
    if is_taken_weakly name world || is_barred world.calls then Refused
    else weak_start name (owner_of given world.names)
start world (Fade name) = fade_start world.calls (owner_of name world.weak_names)
start world (Up weak name) = if is_taken name world then Refused else up_start world.calls name (owner_of weak world.weak_names)
start world (Ask name request) = ask_start (zone_of name world) request
start world (Transfer name request) = transfer_start world request (owner_of name world.names)
start world (Update request) =
    if is_barred world.calls then Refused
    else update_start world (option_and_then (λ last. judged last request) (found_last world.words))

-- the names in use without the one that a call releases (own)
abbrev pub given_up : Call → List Named → List Named
given_up (Drop name) names = without_name name names
given_up call names = names

-- the weak owners' names without the one that a call releases (own)
abbrev pub weak_given_up : Call → List Named → List Named
weak_given_up (Fade name) names = without_name name names
weak_given_up call names = names

-- the weak owners' names at the end of a call (own)
abbrev pub weak_names_at : End → List Named → List Named
weak_names_at (OwnedWeakly name owner number) names = names ++ record { name = name; owner = owner } ∷ []
weak_names_at end names = names

-- the names in use at the end of a call (own)
abbrev pub names_at : End → List Named → List Named
names_at (Owned name owner number) names = names ++ record { name = name; owner = owner } ∷ []
names_at end names = names

-- the owners of the versions that are kept at the end of a call: an update adds its own, and the oldest is removed where the limit of
-- kept versions is reached (own)
abbrev pub kept_at : ℕ → End → List ℕ → List ℕ
kept_at keep (Kept heading owner entry) kept = (if nat_lt keep (length kept) then remove kept 0 else kept) ++ owner ∷ []
kept_at keep end kept = kept

-- the window at the end of a call: an update enters its version, where it has an entry (own)
abbrev pub entries_at : ℕ → End → List Entry → List Entry
entries_at window (Kept heading owner (Some entry)) entries = entered window entries entry
entries_at window end entries = entries

-- the answer of a call at its end: an update gets NOERROR, or SERVFAIL where it found no free slot; a transfer its messages (own)
abbrev pub answer_at : End → Answer
answer_at (Owned name owner number) = Owner name number
answer_at (OwnedWeakly name owner number) = Owner name number
answer_at (Replied answer) = answer
answer_at (NoSlot heading) = code_reply heading ServFail
answer_at (Kept heading owner entry) = code_reply heading NoError
answer_at (Sent sending) = sent_answer sending

-- the next step of a call on the words, and what follows it; none where the words have no such step (own)
abbrev pub step_once : State Numbered → Phase → Option (Progress × State Numbered)
step_once words phase = option_map (λ reported. (after reported.1 phase reported.0, reported.1)) (made words (word_step phase))

-- the steps of a call on the words up to its end, but no more than so many; at a step that can't be made, it stops (own)
abbrev pub go_on : (State Numbered → Phase → Progress × State Numbered) → State Numbered → Phase → Option (Progress × State Numbered) → Progress × State Numbered
go_on more words phase None = (On phase, words)
go_on more words phase (Some (On next, between)) = more between next
go_on more words phase (Some (Done end, between)) = (Done end, between)

unfoldable pub steps_up_to : ℕ → State Numbered → Phase → Progress × State Numbered
steps_up_to zero words phase = (On phase, words)
steps_up_to (suc left) words phase = go_on (steps_up_to left) words phase (step_once words phase)

-- no further call can begin (own)
abbrev pub is_full : World → Bool
is_full world = nat_le most_calls (length world.calls)

-- a call that has made all its steps; one that can't make them isn't enabled (own)
abbrev pub all_made : World → Call → Progress × State Numbered → WorldReply × World
all_made world call (On phase, words) = (NotEnabled, record world { words = words })
all_made world call (Done end, words) =
    (Answered (answer_at end), record world { words = words; names = names_at end (given_up call world.names); weak_names = weak_names_at end (weak_given_up call world.weak_names); kept = kept_at world.keep end world.kept; entries = entries_at world.window end world.entries })

-- a call with all its steps, by how it begins (own)
abbrev pub whole : World → Call → Start → Option (WorldReply × World)
whole world call Refused = Some (NotEnabled, world)
whole world call (Answers answer) = if is_full world then None else Some (Answered answer, world)
whole world call (Takes phase) =
    if is_full world then None else Some (all_made world call (steps_up_to most_steps world.words phase))

-- a call that begins under a name that no call under way has, by how it begins (own)
abbrev pub begin_call : World → List ℕ → Call → Start → Option (WorldReply × World)
begin_call world name call Refused = Some (NotEnabled, world)
begin_call world name call (Answers answer) = if is_full world then None else Some (Answered answer, world)
begin_call world name call (Takes phase) =
    if is_full world then None
    else Some (Begun, record world { names = given_up call world.names; weak_names = weak_given_up call world.weak_names; calls = world.calls ++ record { name = name; phase = phase } ∷ [] })

abbrev pub begin_under : World → List ℕ → Call → Option UnderWay → Option (WorldReply × World)
begin_under world name call None = begin_call world name call (start world call)
begin_under world name call (Some other) = Some (NotEnabled, world)

-- a call under way that takes its next step (own)
abbrev pub stepped : World → List ℕ → Phase → Option (Progress × State Numbered) → WorldReply × World
stepped world name phase None = (NotEnabled, world)
stepped world name phase (Some (On next, words)) =
    (Step (step_name phase), record world { words = words; calls = without_call name world.calls ++ record { name = name; phase = next } ∷ [] })
stepped world name phase (Some (Done end, words)) =
    (Last (step_name phase) (answer_at end), record world { words = words; names = names_at end world.names; weak_names = weak_names_at end world.weak_names; calls = without_call name world.calls; kept = kept_at world.keep end world.kept; entries = entries_at world.window end world.entries })

-- a call that was removed from those under way, after a step (own)
abbrev pub gone_on : World → List ℕ → StepName → Progress → WorldReply × World
gone_on world name step (On next) = (Step step, record world { calls = world.calls ++ record { name = name; phase = next } ∷ [] })
gone_on world name step (Done end) =
    (Last step (answer_at end), record world { names = names_at end world.names; weak_names = weak_names_at end world.weak_names; kept = kept_at world.keep end world.kept; entries = entries_at world.window end world.entries })

abbrev pub next : World → List ℕ → Option UnderWay → WorldReply × World
next world name None = (NotEnabled, world)
next world name (Some call) = stepped world name call.phase (step_once world.words call.phase)

-- the reply to a line, and the world after it; none where the line is enabled and 64 calls are under way (own)
abbrev pub turn : World → WorldStep → Option (WorldReply × World)
turn world (Whole call) = whole world call (start world call)
turn world (Begin name call) = begin_under world name call (call_of name world.calls)
turn world (Next name) = Some (next world name (call_of name world.calls))

-- the replies to lines from a world on, and the world after them; none where one of them passes the limit (own)
abbrev pub onto_replies : WorldReply → Option (List WorldReply × World) → Option (List WorldReply × World)
onto_replies given more = option_map (λ rest. (given ∷ rest.0, rest.1)) more

abbrev pub play : World → List WorldStep → Option (List WorldReply × World)
play world [] = Some ([], world)
play world (line ∷ lines) = option_and_then (λ reported. onto_replies reported.0 (play reported.1 lines)) (turn world line)

-- the replies to lines, from a first version on, with so many versions kept besides the last, and a window of this size (own)
abbrev pub replies_of : List Record → ℕ → ℕ → List WorldStep → Option (List WorldReply)
replies_of first keep window lines = option_map (λ played. played.0) (play (started first keep window) lines)
