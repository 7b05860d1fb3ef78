-- What a start has in front of damage.
use Rattle.std.proofs.Common.{◌≡◌, ℕ, ◌+◌, ◌<◌, List, [], ◌++◌, length, take, map, Result, Ok, sym, ap, ◌∙◌, subst, append_assoc, length-append, arith, inl, inr}
use Rattle.std.proofs.lemmas.List.{take_at}
use Rattle.dns_rdata.specs.Record.{Record}
use Rattle.dns_message.specs.declared.update.Update.{Update}
use Rattle.master_file.specs.declared.fault.FileFault.{FileFault}
use Rattle.master_file.specs.ZoneText.{zone_of_text}
use Rattle.journal.specs.declared.heads.Head.{Head}
use Rattle.journal.specs.declared.start.Refused.TheVariants.{BadHead, Damaged}
use Rattle.journal.specs.Batch.{Messages, batch_of}
use Rattle.journal.specs.Frame.{frames_of, IsRead}
use Rattle.journal.specs.Head.{head_of, salt_of}
use Rattle.journal.specs.Recovered.{journal_of, updates_in, IsOpened, IsDamaged}
use Rattle.journal.proofs.FramesLemmas.{read_once, written_read, frames-append, synced_first}
use Rattle.journal.proofs.HeadLemmas.{one_head}
use Rattle.journal.proofs.RecoveredLemmas.{opened_read, same_batches}
use Rattle.journal.proofs.TailLemmas.{shown_within}
use Rattle.update_core.specs.Act.{replay}
use Rattle.dns_engine.specs.Held.{Held}
use Rattle.dns_engine.specs.Replayed.{EachChanges}
use Rattle.store_recovery.specs.declared.fault.StartFault.TheVariants.{Journal, NoMemory}
use Rattle.store_recovery.specs.declared.recent_versions.RecentVersions.{RecentVersions}
use Rattle.store_recovery.specs.declared.start.Recovery.{Recovery}
use Rattle.store_recovery.specs.Before.{EndsWhole, IsUnread, IsStartedBefore, IsBeforeFault}
use Rattle.store_recovery.specs.Replay.{AreRead, IsReplayed, begun, held_from}
use Rattle.store_recovery.specs.Start.{IsStarted}
use Rattle.store_recovery.specs.Store.{IsStore}
use Rattle.store_recovery.proofs.ReadLemmas.{read_once as updates_once}
use Rattle.store_recovery.proofs.StoreLemmas.{synced_taken}

-- octets are opened in one way
opened_once : (octets : List ℕ) (head other : Head) (bodies others : List (List ℕ)) (rest left : List ℕ) → IsOpened octets head bodies rest → IsOpened octets other others left
    → (head ≡ other) × (bodies ≡ others) × (rest ≡ left)
opened_once octets head other bodies others rest left one two =
    let heads = one_head head other one.behind two.behind one.begins.is_head two.begins.is_head (sym one.begins.spelt ∙ two.begins.spelt) in
    let there : IsRead (salt_of head) 0 two.behind others left = subst (λ (h : Head). IsRead (salt_of h) 0 two.behind others left) (sym heads.0) two.read in
    let here : IsRead (salt_of head) 0 one.behind others left = subst (λ (o : List ℕ). IsRead (salt_of head) 0 o others left) (sym heads.1) there in
    let once = read_once (salt_of head) 0 one.behind bodies rest others left one.read here in
    (heads.0, once.0, once.1)

-- octets up to where whole frames end
whole_octets : (octets : List ℕ) (end : ℕ) (whole : EndsWhole octets end) → take end octets ≡ head_of whole.head ++ frames_of (salt_of whole.head) 0 whole.bodies
whole_octets octets end whole =
    let frames : List ℕ = frames_of (salt_of whole.head) 0 whole.bodies in
    let spelt : octets ≡ (head_of whole.head ++ frames) ++ whole.rest =
    whole.opened.begins.spelt ∙ (ap (λ (o : List ℕ). head_of whole.head ++ o) whole.opened.read.spelt ∙ sym (append_assoc (head_of whole.head) frames whole.rest)) in
    let long : length (head_of whole.head ++ frames) ≡ end = omega (arith, ap length spelt, whole.place, length-append (head_of whole.head ++ frames) whole.rest) in
    ap (λ (o : List ℕ). take end o) spelt ∙ take_at (head_of whole.head ++ frames) whole.rest end long

whole_opened : (octets : List ℕ) (end : ℕ) (whole : EndsWhole octets end) → IsOpened (take end octets) whole.head whole.bodies []
whole_opened octets end whole = record {
  behind = frames_of (salt_of whole.head) 0 whole.bodies;
  begins = record { is_head = whole.opened.begins.is_head; spelt = whole_octets octets end whole };
  read = written_read (salt_of whole.head) 0 whole.bodies whole.opened.read.fit;
}

-- a text is one zone
one_zone_of : (text : Result (List Record) FileFault) (zone other : List Record) → text ≡ Ok zone → text ≡ Ok other → zone ≡ other
one_zone_of text zone other one two = cc

-- messages are replayed on a zone in one way
replayed_once : (zone other : List Record) (messages reported : List Messages) (one two : RecentVersions) → zone ≡ other → messages ≡ reported → IsReplayed zone messages one → IsReplayed other reported two
    → (one.last ≡ two.last) × (one.older.items ≡ two.older.items)
replayed_once zone other messages reported one two same_zone same is also =
    let updates : is.updates ≡ also.updates = updates_once messages is.updates also.updates is.read (subst (λ (ms : List Messages). AreRead ms also.updates) (sym same) also.read) in
    let held : held_from (begun zone) is.updates ≡ held_from (begun other) also.updates =
    ap (λ (us : List Update). held_from (begun zone) us) updates ∙ ap (λ (z : List Record). held_from (begun z) also.updates) same_zone in
    (is.last ∙ (ap (λ (h : Held). h.last) held ∙ sym also.last), is.older ∙ (ap (λ (h : Held). h.older) held ∙ sym also.older))

-- a start of a journal that isn't damaged
pub before_same : (text octets : List ℕ) (start before : Recovery) → IsStarted text octets start → IsStartedBefore text octets before
    → (start.newest.last ≡ before.newest.last) × (start.newest.older.items ≡ before.newest.older.items) × (start.number ≡ before.number) × (start.end ≡ before.end)
before_same text octets start before is also =
    let there = also.started in
    let one = opened_once octets start.head also.whole.head is.recovered.bodies also.whole.bodies is.recovered.rest also.whole.rest is.recovered.opened also.whole.opened in
    let two = opened_once (take also.end octets) before.head also.whole.head there.recovered.bodies also.whole.bodies there.recovered.rest [] there.recovered.opened
    (whole_opened octets also.end also.whole) in
    let batches : is.recovered.batches ≡ there.recovered.batches =
    same_batches is.recovered.batches there.recovered.batches is.recovered.are_batches.short there.recovered.are_batches.short
    (sym is.recovered.are_batches.spelt ∙ (one.1 ∙ (sym two.1 ∙ there.recovered.are_batches.spelt))) in
    let messages : is.messages ≡ there.messages = is.recovered.all ∙ (ap updates_in batches ∙ sym there.recovered.all) in
    let newest = replayed_once is.zone there.zone is.messages there.messages start.newest before.newest
    (one_zone_of (zone_of_text [] text) is.zone there.zone is.is_zone there.is_zone) messages is.replayed there.replayed in
    let cut : length (take also.end octets) ≡ also.end =
    omega (
      arith,
      ap length (whole_octets octets also.end also.whole),
      ap length also.whole.opened.begins.spelt,
      ap length also.whole.opened.read.spelt,
      also.whole.place,
      length-append (head_of also.whole.head) (frames_of (salt_of also.whole.head) 0 also.whole.bodies),
      length-append (head_of also.whole.head) also.whole.opened.behind,
      length-append (frames_of (salt_of also.whole.head) 0 also.whole.bodies) also.whole.rest,
    ) in
    let end : start.end ≡ also.end = omega (arith, is.recovered.place, also.whole.place, ap length one.2) in
    let left : before.end ≡ also.end = omega (arith, there.recovered.place, cut, ap length two.2) in
    (newest.0, newest.1, is.recovered.count ∙ (ap length batches ∙ sym there.recovered.count), end ∙ sym left)

-- damage is never told
never_unread : (at : ℕ) (octets : List ℕ) → IsUnread octets (Journal (Damaged at)) → ⊥
never_unread at octets (inl bad) = other_fault bad.2
  where
    other_fault : Journal (Damaged at) ≡ Journal (BadHead bad.0) → ⊥
    other_fault e = cc
never_unread at octets (inr starved) = no_memory starved
  where
    no_memory : Journal (Damaged at) ≡ NoMemory → ⊥
    no_memory e = cc

pub never_damaged : (text octets : List ℕ) (at : ℕ) → IsBeforeFault text octets (Journal (Damaged at)) → ⊥
never_damaged text octets at (inl unread) = never_unread at octets unread
never_damaged text octets at (inr fault) =
    let damage : IsDamaged text (take fault.end octets) at = fault.why.0 in
    let once = opened_once (take fault.end octets) damage.head fault.whole.head damage.bodies fault.whole.bodies damage.rest [] damage.opened (whole_opened octets fault.end fault.whole) in
    let within : damage.place < length damage.rest = shown_within (salt_of damage.head) (length damage.bodies) damage.place damage.rest damage.later.0 in
    omega (arith, within, ap length once.2)

-- all updates of a store are in front, whatever octets stand behind its journal
pub before_taken : (text left : List ℕ) (head : Head) (batches : List (List Messages)) (zone : List Record) (updates : List Update) (start : Recovery)
    → IsStore text head batches zone updates → IsStartedBefore text (journal_of head batches ++ left) start
    → (more : List Update) × EachChanges zone (updates ++ more) × (start.newest.last.zone ≡ replay zone (updates ++ more))
    × (start.newest.last.number ≡ length (updates ++ more))
before_taken text left head batches zone updates start store is =
    let octets : List ℕ = journal_of head batches ++ left in
    let bodies : List (List ℕ) = map batch_of batches in
    let read = opened_read head is.whole.head batches left is.whole.bodies is.whole.rest store.is_head is.whole.opened in
    let more = synced_first (salt_of head) 0 bodies is.whole.bodies left is.whole.rest store.fit read.1 in
    let behind : List ℕ = frames_of (salt_of head) (0 + length bodies) more.0 in
    let cut : take is.end octets ≡ journal_of head batches ++ behind =
    whole_octets octets is.end is.whole
    ∙ (ap (λ (h : Head). head_of h ++ frames_of (salt_of h) 0 is.whole.bodies) (sym read.0)
    ∙ (ap (λ (bs : List (List ℕ)). head_of head ++ frames_of (salt_of head) 0 bs) more.1
    ∙ (ap (λ (o : List ℕ). head_of head ++ o) (frames-append (salt_of head) 0 bodies more.0) ∙ sym (append_assoc (head_of head) (frames_of (salt_of head) 0 bodies) behind)))) in
    synced_taken text behind head batches zone updates start store (subst (λ (o : List ℕ). IsStarted text o start) cut is.started)
