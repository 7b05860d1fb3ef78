-- Messages that are replayed, one after another.
use Rattle.journal.specs.Batch.{Messages}
use Rattle.std.proofs.Common.{◌≡◌, ◌≢◌, ℕ, zero, suc, ◌+◌, ◌<◌, ◌≤◌, true, List, [], ◌∷◌, ◌++◌, length, take, get_or, map, Option, None, Some, Result, Ok, Err, unwrap_or, Bor, refl, sym, ap, ◌∙◌, subst, arith, if◌then◌else◌, Vec, Global}
use Rattle.std.specs.Prelude.{slice_get, MatchResult}
use Rattle.std.specs.Option.{option_or, is_some}
use Rattle.std.proofs.lemmas.Option.{slice_get-get_or}
use Rattle.std.proofs.lemmas.List.{take_more, take_all, length-map, length-take, get_or-map}
use Rattle.dns_rdata.specs.Record.{Record}
use Rattle.dns_rdata.specs.declared.numbers.Rcode.{Rcode}
use Rattle.dns_rdata.specs.declared.numbers.Rcode.TheVariants.{ServFail}
use Rattle.dns_message.specs.declared.update.Update.{Update}
use Rattle.zone_tree.specs.Version.{Version}
use Rattle.update_core.specs.Verdict.{verdict}
use Rattle.update_core.specs.Act.{act, replay}
use Rattle.update_core.specs.Applied.{code_of}
use Rattle.dns_engine.specs.Versions.{Makes}
use Rattle.dns_engine.specs.Held.{Held, KEPT, newest, held_with}
use Rattle.dns_engine.specs.Replayed.{EachChanges}
use Rattle.dns_engine.proofs.ReplayLemmas.{changes_more}
use Rattle.store_recovery.specs.declared.fault.UpdateFault.{UpdateFault}
use Rattle.store_recovery.specs.declared.fault.UpdateFault.TheVariants.{NotAnUpdate, Refused, ChangesNothing}
use Rattle.store_recovery.specs.declared.recent_versions.RecentVersions.{RecentVersions}
use Rattle.update_messages.specs.Joined.{IsRead}
use Rattle.store_recovery.specs.Replay.{AreRead, version_by, begun, held_from, IsMade, IsReplayed, IsUpdateFault, IsNotTaken}
use Rattle.store_recovery.proofs.HeldLemmas.{makes_by, held_zone, held_number, held_keep, held_more}
use Rattle.store_recovery.proofs.ReadLemmas.{read_one, read_once, read_long, read_more, read_take}

-- the last of the newest versions has the replayed zone, and counts the updates
pub replayed_zone : (zone : List Record) (messages : List Messages) (kept : RecentVersions) (is : IsReplayed zone messages kept) → kept.last.zone ≡ replay zone is.updates
replayed_zone zone messages kept is = ap (λ (version : Version). version.zone) is.last ∙ held_zone (begun zone) is.updates

pub replayed_number : (zone : List Record) (messages : List Messages) (kept : RecentVersions) → IsReplayed zone messages kept → kept.last.number ≡ length messages
replayed_number zone messages kept is =
    ap (λ (version : Version). version.number) is.last ∙ (held_number (begun zone) is.updates ∙ omega (arith, read_long messages is.updates is.read))

-- what the next version shows of its update
record Shown (zone : List Record) (update : Update) : Type 0 where
  taken : verdict zone update true ≡ None
  changed : unwrap_or (act zone update) zone ≢ zone

shown : (version next : Version) (update : Update) → Makes update version next → Shown version.zone update
shown version next update makes = record {
  taken = makes.taken;
  changed = λ same. makes.changed (sym (ap (λ (made : Option (List Record)). unwrap_or made version.zone) makes.zone) ∙ same);
}

-- no message is replayed yet
pub none_replayed : (zone : List Record) (kept : RecentVersions) → kept.last ≡ (begun zone).last → kept.older.items ≡ [] → IsReplayed zone [] kept
none_replayed zone kept last older = record { updates = []; read = tt; taken = tt; last = last; older = older }

-- one message more is replayed
pub more_replayed : (zone : List Record) (messages : List Messages) (message : Messages) (kept next : RecentVersions)
    → IsReplayed zone messages kept → IsMade kept.last message next.last → next.older.items ≡ newest KEPT (kept.older.items ++ kept.last ∷ [])
    → IsReplayed zone (messages ++ message ∷ []) next
more_replayed zone messages message kept next is made older =
    let held : Held = held_from (begun zone) is.updates in
    let here : kept.last.zone ≡ replay zone is.updates = replayed_zone zone messages kept is in
    let shows : Shown (replay zone is.updates) made.update = subst (λ (z : List Record). Shown z made.update) here (shown kept.last next.last made.update made.makes) in
    let after : Held = held_with held (version_by held.last made.update) in
    let more : held_from (begun zone) (is.updates ++ made.update ∷ []) ≡ after = held_more (begun zone) is.updates made.update in
    let last : next.last ≡ after.last =
    makes_by kept.last next.last made.update made.makes ∙ ap (λ (version : Version). version_by version made.update) is.last in
    let both : kept.older.items ++ kept.last ∷ [] ≡ held.older ++ held.last ∷ [] =
    ap (λ (versions : List Version). versions ++ kept.last ∷ []) is.older ∙ ap (λ (version : Version). held.older ++ version ∷ []) is.last in
    let kept_older : next.older.items ≡ after.older =
    older ∙ (ap (λ (versions : List Version). newest KEPT versions) both ∙ ap (λ (k : ℕ). newest k (held.older ++ held.last ∷ [])) (sym (held_keep (begun zone) is.updates))) in
    record {
      updates = is.updates ++ made.update ∷ [];
      read = read_more messages is.updates message made.update is.read made.read;
      taken = changes_more zone is.updates made.update is.taken shows.taken shows.changed;
      last = last ∙ sym (ap (λ (h : Held). h.last) more);
      older = kept_older ∙ sym (ap (λ (h : Held). h.older) more);
    }

-- the same of what is lent
-- a request of lent messages, and requests
abbrev pub messages_now : Vec (Bor (List ℕ)) Global → Messages
messages_now request = map (λ (m : Bor (List ℕ)). m.now) request.items

abbrev pub now_of : List (Vec (Bor (List ℕ)) Global) → List Messages
now_of lent = map messages_now lent

lent_at : (messages : List (Vec (Bor (List ℕ)) Global)) (place : ℕ) (d : Vec (Bor (List ℕ)) Global) → place < length messages → get_or (now_of messages) place (messages_now d) ≡ (messages_now (get_or messages place d))
lent_at messages place d within = get_or-map messages_now messages place d (messages_now d) within

lent_long : (messages : List (Vec (Bor (List ℕ)) Global)) → length (now_of messages) ≡ length messages
lent_long messages = length-map messages messages_now

-- the messages up to a place, and the one there
lent_more : (messages : List (Vec (Bor (List ℕ)) Global)) (place : ℕ) (d : Vec (Bor (List ℕ)) Global) → place < length messages
    → take (place + 1) (now_of messages) ≡ take place (now_of messages) ++ (messages_now (get_or messages place d)) ∷ []
lent_more messages place d within =
    take_more (now_of messages) place (messages_now d) (omega (arith, within, lent_long messages)) ∙ ap (λ (m : Messages). take place (now_of messages) ++ m ∷ []) (lent_at messages place d within)

pub one_more_replayed : (zone : List Record) (messages : List (Vec (Bor (List ℕ)) Global)) (place : ℕ) (d : Vec (Bor (List ℕ)) Global) (kept after : RecentVersions) (next : Version)
    → IsReplayed zone (take place (now_of messages)) kept → place < length messages → IsMade kept.last (messages_now (get_or messages place d)) next
    → after.last ≡ next → after.older.items ≡ newest KEPT (kept.older.items ++ kept.last ∷ []) → IsReplayed zone (take (place + 1) (now_of messages)) after
one_more_replayed zone messages place d kept after next is within made last older =
    subst (λ (ms : List Messages). IsReplayed zone ms after) (sym (lent_more messages place d within))
    (more_replayed zone (take place (now_of messages)) (messages_now (get_or messages place d)) kept after is
    (subst (λ (version : Version). IsMade kept.last (messages_now (get_or messages place d)) version) (sym last) made) older)

pub so_far_number : (zone : List Record) (messages : List (Vec (Bor (List ℕ)) Global)) (place : ℕ) (kept : RecentVersions) → IsReplayed zone (take place (now_of messages)) kept → place ≤ length messages
    → kept.last.number ≡ place
so_far_number zone messages place kept is within =
    replayed_number zone (take place (now_of messages)) kept is ∙ omega (arith, length-take place (now_of messages), lent_long messages)

pub all_replayed : (zone : List Record) (messages : List (Vec (Bor (List ℕ)) Global)) (place : ℕ) (kept : RecentVersions) → IsReplayed zone (take place (now_of messages)) kept → length messages ≤ place
    → IsReplayed zone (now_of messages) kept
all_replayed zone messages place kept is end =
    subst (λ (ms : List Messages). IsReplayed zone ms kept) (take_all place (now_of messages) (omega (arith, end, lent_long messages))) is

-- the message at a place isn't taken
pub not_taken_at : (zone : List Record) (messages : List (Vec (Bor (List ℕ)) Global)) (place : ℕ) (d : Vec (Bor (List ℕ)) Global) (kept : RecentVersions) (fault : UpdateFault)
    → IsReplayed zone (take place (now_of messages)) kept → place < length messages → IsUpdateFault kept.last.zone (messages_now (get_or messages place d)) fault
    → IsNotTaken zone (now_of messages) place fault
not_taken_at zone messages place d kept fault is within why = record {
  before = is.updates;
  read = is.read;
  taken = is.taken;
  request = (messages_now (get_or messages place d));
  is_present = slice_get-get_or (now_of messages) place (messages_now d) (omega (arith, within, lent_long messages)) ∙ ap Some (lent_at messages place d within);
  why = subst (λ (z : List Record). IsUpdateFault z (messages_now (get_or messages place d)) fault) (replayed_zone zone (take place (now_of messages)) kept is) why;
}

-- what is known of a message of those that are taken: its update, and that this is taken in the zone that those before it leave
record TakenAt (zone : List Record) (message : Messages) : Type 0 where
  update : Update
  read : IsRead message update
  shows : Shown zone update

some_same : (message other : Messages) → Some message ≡ Some other → message ≡ other
some_same message other e = cc

nothing_stands : (message : Messages) (place : ℕ) → slice_get [] place ≡ Some message → ⊥
nothing_stands message place e = cc

taken_at : (zone : List Record) (messages : List Messages) (updates : List Update) (place : ℕ) (message : Messages)
    → AreRead messages updates → EachChanges zone updates → slice_get messages place ≡ Some message → TakenAt (replay zone (take place updates)) message
taken_at zone [] updates place message read taken is_present = absurd (nothing_stands message place is_present)
taken_at zone (first ∷ messages) [] place message read taken is_present = absurd read
taken_at zone (first ∷ messages) (update ∷ updates) zero message read taken is_present =
    record { update = update; read = subst (λ (m : Messages). IsRead m update) (some_same first message is_present) read.0; shows = record { taken = taken.0; changed = taken.1 } }
taken_at zone (first ∷ messages) (update ∷ updates) (suc place) message read taken is_present =
    taken_at (unwrap_or (act zone update) zone) messages updates place message read.1 taken.2 is_present

-- an update that is taken and changes a zone gets no code
no_code : (reported : Option Rcode) (made : Option (List Record)) (zone : List Record) (code : Rcode) → reported ≡ None → unwrap_or made zone ≢ zone
    → option_or reported (if is_some made then None else Some ServFail) ≡ Some code → ⊥
no_code None None zone code e changed is = changed refl
no_code None (Some after) zone code e changed is = cc
no_code (Some other) made zone code e changed is = cc

not_faulty : (zone : List Record) (message : Messages) (fault : UpdateFault) → TakenAt zone message → IsUpdateFault zone message fault → ⊥
not_faulty zone message NotAnUpdate taken why = why taken.update taken.read
not_faulty zone message (Refused code) taken why =
    let same : why.0 ≡ taken.update = read_one message why.0 taken.update why.1 taken.read in
    no_code (verdict zone taken.update true) (act zone taken.update) zone code taken.shows.taken taken.shows.changed
    (subst (λ (u : Update). code_of zone u true ≡ Some code) same why.2)
not_faulty zone message ChangesNothing taken why =
    let same : why.0 ≡ taken.update = read_one message why.0 taken.update why.1 taken.read in
    taken.shows.changed (ap (λ (made : Option (List Record)). unwrap_or made zone) (subst (λ (u : Update). act zone u ≡ Some zone) same why.3))

-- messages of updates that are taken are all taken
pub all_taken : (zone : List Record) (messages : List Messages) (updates : List Update) (place : ℕ) (fault : UpdateFault)
    → AreRead messages updates → EachChanges zone updates → IsNotTaken zone messages place fault → ⊥
all_taken zone messages updates place fault read taken other =
    let same : other.before ≡ take place updates = read_once (take place messages) other.before (take place updates) other.read (read_take place messages updates read) in
    let here : TakenAt (replay zone other.before) other.request =
    subst (λ (before : List Update). TakenAt (replay zone before) other.request) (sym same) (taken_at zone messages updates place other.request read taken other.is_present) in
    not_faulty (replay zone other.before) other.request fault here other.why

-- what is told of a version that is made, or isn't
pub made_told : {X Y : Type 0} (made : Result X Y) (next : X) (P : X → Type 0) (Q : Y → Type 0) → made ≡ Ok next → MatchResult made P Q → P next
made_told made next P Q e reported = subst (λ m. MatchResult m P Q) e reported

pub fault_told : {X Y : Type 0} (made : Result X Y) (fault : Y) (P : X → Type 0) (Q : Y → Type 0) → made ≡ Err fault → MatchResult made P Q → Q fault
fault_told made fault P Q e reported = subst (λ m. MatchResult m P Q) e reported
