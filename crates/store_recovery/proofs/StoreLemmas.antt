-- What a start has of a store, and of what a crash leaves of it.
use Rattle.std.proofs.Common.{◌≡◌, ◌≢◌, ℕ, zero, suc, ◌+◌, ◌≤◌, List, [], ◌∷◌, ◌++◌, length, take, drop, map, Result, Ok, Err, unwrap_or, refl, sym, ap, ◌∙◌, subst, append_assoc, length-append, arith, ◌⊎◌, inl, inr}
use Rattle.std.specs.Prelude.{All}
use Rattle.std.proofs.lemmas.List.{take-append-drop, length-take}
use Rattle.dns_rdata.specs.Record.{Record}
use Rattle.dns_message.specs.declared.update.Update.{Update}
use Rattle.zone_tree.specs.Version.{zone_serial}
use Rattle.master_file.specs.declared.fault.FileFault.{FileFault}
use Rattle.master_file.specs.ZoneText.{zone_of_text}
use Rattle.journal.specs.declared.heads.Head.{Head}
use Rattle.journal.specs.declared.start.Refused.{Refused}
use Rattle.journal.specs.declared.start.Refused.TheVariants.{BadHead, OtherText, Damaged, NoBatch, NoMemory as Starved}
use Rattle.journal.specs.Batch.{Messages, batch_of, IsRequest}
use Rattle.journal.specs.Frame.{frames_of, Fit, NoFrame}
use Rattle.journal.specs.Head.{head_of, salt_of, IsHead, IsText}
use Rattle.journal.specs.Recovered.{journal_of, updates_in, IsRecovered, IsRefused}
use Rattle.journal.proofs.HeadLemmas.{one_head, no_fault}
use Rattle.journal.proofs.RecoveredLemmas.{synced_recovered, written_recovered, written_accepted}
use Rattle.update_core.specs.Act.{act, replay}
use Rattle.dns_engine.specs.Replayed.{EachChanges}
use Rattle.store_recovery.specs.declared.fault.StartFault.{StartFault}
use Rattle.store_recovery.specs.declared.fault.StartFault.TheVariants.{Journal, Text, OtherSerial, Update as NotTaken, NoMemory}
use Rattle.store_recovery.specs.declared.recent_versions.RecentVersions.{RecentVersions}
use Rattle.store_recovery.specs.declared.start.Recovery.{Recovery}
use Rattle.store_recovery.specs.Replay.{AreRead, IsReplayed, IsNotTaken}
use Rattle.store_recovery.specs.Start.{IsStarted, IsSound, IsPair, IsStartFault}
use Rattle.store_recovery.specs.Store.{IsStore}
use Rattle.store_recovery.proofs.ReadLemmas.{read_once, read_long, read_first, read_begins}
use Rattle.store_recovery.proofs.ReplayLemmas.{replayed_zone, replayed_number, all_taken}
use Rattle.store_recovery.proofs.CutLemmas.{cut_is, bodies_read, cut_recovered, not_no_batch, updates-append, short_first}

-- a text is one zone
one_zone : (text : Result (List Record) FileFault) (zone other : List Record) → text ≡ Ok zone → text ≡ Ok other → zone ≡ other
one_zone text zone other one two = cc

no_zone : (text : Result (List Record) FileFault) (zone : List Record) (fault : FileFault) → text ≡ Ok zone → text ≡ Err fault → ⊥
no_zone text zone fault one two = cc

-- messages that are replayed on a zone, read as these updates
replayed_as : (zone other : List Record) (messages reported : List Messages) (updates : List Update) (kept : RecentVersions) → zone ≡ other → reported ≡ messages → AreRead messages updates
    → IsReplayed other reported kept → (kept.last.zone ≡ replay zone updates) × (kept.last.number ≡ length updates)
replayed_as zone other messages reported updates kept same_zone same read is =
    let others : is.updates ≡ updates = read_once messages is.updates updates (subst (λ (ms : List Messages). AreRead ms is.updates) same is.read) read in
    let here : replay other is.updates ≡ replay zone updates =
    ap (λ (us : List Update). replay other us) others ∙ ap (λ (z : List Record). replay z updates) (sym same_zone) in
    (replayed_zone other reported kept is ∙ here, replayed_number other reported kept is ∙ (ap length same ∙ sym (read_long messages updates read)))

-- a journal that nothing stands behind
pub store_taken : (text : List ℕ) (head : Head) (batches : List (List Messages)) (zone : List Record) (updates : List Update) (start : Recovery)
    → IsStore text head batches zone updates → IsStarted text (journal_of head batches) start
    → (start.newest.last.zone ≡ replay zone updates) × (start.newest.last.number ≡ length updates)
store_taken text head batches zone updates start store is =
    let found = written_recovered text head start.head batches is.messages start.number start.end is.torn store.is_head store.fit store.short is.recovered in
    replayed_as zone is.zone (updates_in batches) is.messages updates start.newest (one_zone (zone_of_text [] text) zone is.zone store.is_zone is.is_zone) found.1 store.read is.replayed

-- a fault of a start over messages that are taken is one of the journal, or want of memory
faults_left : (text octets : List ℕ) (head : Head) (messages : List Messages) (zone : List Record) (updates : List Update) (fault : StartFault)
    → zone_of_text [] text ≡ Ok zone → zone_serial zone ≡ head.serial → AreRead messages updates → EachChanges zone updates
    → ((other : Head) (reported : List Messages) → IsSound text octets other reported → (other ≡ head) × (reported ≡ messages))
    → IsStartFault text octets fault → (fault ≡ NoMemory) ⊎ ((why : Refused) × (fault ≡ Journal why) × IsRefused text octets why × (why ≢ Starved))
faults_left text octets head messages zone updates (Journal why) is_zone serial read taken sound is = inr (why, refl, is.0, is.1)
faults_left text octets head messages zone updates (Text fault) is_zone serial read taken sound is = absurd (no_zone (zone_of_text [] text) zone fault is_zone is.3)
faults_left text octets head messages zone updates OtherSerial is_zone serial read taken sound is =
    let other : Head = is.0 in
    let same = sound other is.1 is.3 in
    let zones : zone ≡ is.2 = one_zone (zone_of_text [] text) zone is.2 is_zone is.4 in
    absurd (is.5 (ap zone_serial (sym zones) ∙ (serial ∙ ap (λ (h : Head). h.serial) (sym same.0))))
faults_left text octets head messages zone updates (NotTaken place fault) is_zone serial read taken sound is =
    let pair : IsPair text octets is.0 is.1 = is.2 in
    let same = sound pair.head is.1 pair.sound in
    let zones : is.0 ≡ zone = one_zone (zone_of_text [] text) is.0 zone pair.is_zone is_zone in
    let here : IsNotTaken zone is.1 place fault = subst (λ (z : List Record). IsNotTaken z is.1 place fault) zones is.3 in
    absurd (all_taken zone messages updates place fault read taken (subst (λ (ms : List Messages). IsNotTaken zone ms place fault) same.1 here))
faults_left text octets head messages zone updates NoMemory is_zone serial read taken sound is = inl refl

pub store_accepted : (text : List ℕ) (head : Head) (batches : List (List Messages)) (zone : List Record) (updates : List Update) (fault : StartFault)
    → IsStore text head batches zone updates → IsStartFault text (journal_of head batches) fault → fault ≡ NoMemory
store_accepted text head batches zone updates fault store is =
    by_left (faults_left text (journal_of head batches) head (updates_in batches) zone updates fault store.is_zone store.serial store.read store.taken
    (λ other reported sound.
    let found = written_recovered text head other batches reported sound.number sound.end sound.torn store.is_head store.fit store.short sound.recovered in
    (found.0, found.1)) is)
  where
    by_left : (fault ≡ NoMemory) ⊎ ((why : Refused) × (fault ≡ Journal why) × IsRefused text (journal_of head batches) why × (why ≢ Starved)) → fault ≡ NoMemory
    by_left (inl memory) = memory
    by_left (inr other) = absurd (other.3 (written_accepted text head batches other.0 store.is_head store.same_text store.fit store.short other.2))

-- octets behind a journal
pub synced_taken : (text left : List ℕ) (head : Head) (batches : List (List Messages)) (zone : List Record) (updates : List Update) (start : Recovery)
    → IsStore text head batches zone updates → IsStarted text (journal_of head batches ++ left) start
    → (more : List Update) × EachChanges zone (updates ++ more) × (start.newest.last.zone ≡ replay zone (updates ++ more))
    × (start.newest.last.number ≡ length (updates ++ more))
synced_taken text left head batches zone updates start store is =
    let found = synced_recovered text left head start.head batches is.messages start.number start.end is.torn store.is_head store.fit store.short is.recovered in
    let first : List Messages = updates_in batches in
    let all : List Update = is.replayed.updates in
    let zones : is.zone ≡ zone = one_zone (zone_of_text [] text) is.zone zone is.is_zone store.is_zone in
    let read : AreRead (first ++ found.0) all = subst (λ (ms : List Messages). AreRead ms all) found.2 is.replayed.read in
    let more : List Update = drop (length first) all in
    let whole : all ≡ updates ++ more =
    sym (take-append-drop (length first) all) ∙ ap (λ (us : List Update). us ++ more) (sym (read_begins first found.0 updates all store.read read)) in
    let longer = replayed_as zone is.zone is.messages is.messages (updates ++ more) start.newest (sym zones) refl
    (subst (λ (us : List Update). AreRead is.messages us) whole is.replayed.read) is.replayed in
    (more, subst (λ (us : List Update). EachChanges zone us) whole (subst (λ (z : List Record). EachChanges z all) zones is.replayed.taken), longer.0, longer.1)

-- a journal that is cut: the messages that are left, and the updates that they are read as
record Left (synced : List (List Messages)) (messages : List Messages) (zone : List Record) (updates : List Update) : Type 0 where
  k : ℕ
  least : length (updates_in synced) ≤ k
  most : k ≤ length updates
  read : AreRead messages (take k updates)
  taken : EachChanges zone (take k updates)

changes_take : (k : ℕ) (zone : List Record) (updates : List Update) → EachChanges zone updates → EachChanges zone (take k updates)
changes_take zero zone updates taken = tt
changes_take (suc k) zone [] taken = tt
changes_take (suc k) zone (update ∷ updates) taken = (taken.0, taken.1, changes_take k (unwrap_or (act zone update) zone) updates taken.2)

left_of : (text : List ℕ) (head : Head) (synced later left gone : List (List Messages)) (zone : List Record) (updates : List Update)
    → IsStore text head (synced ++ later) zone updates → later ≡ left ++ gone → Left synced (updates_in (synced ++ left)) zone updates
left_of text head synced later left gone zone updates store parts =
    let messages : List Messages = updates_in (synced ++ left) in
    let all : updates_in (synced ++ later) ≡ messages ++ updates_in gone =
    ap (λ (bs : List (List Messages)). updates_in (synced ++ bs)) parts
    ∙ (ap updates_in (sym (append_assoc synced left gone)) ∙ updates-append (synced ++ left) gone) in
    let read : AreRead (messages ++ updates_in gone) updates = subst (λ (ms : List Messages). AreRead ms updates) all store.read in
    let few : length (updates_in synced) ≤ length messages =
    omega (arith, ap length (updates-append synced left), length-append (updates_in synced) (updates_in left)) in
    let most : length messages ≤ length updates =
    omega (arith, read_long (messages ++ updates_in gone) updates read, length-append messages (updates_in gone)) in
    record {
      k = length messages;
      least = few;
      most = most;
      read = read_first messages (updates_in gone) updates read;
      taken = changes_take (length messages) zone updates store.taken;
    }

-- the batches that are left are short
left_short : (synced later left gone : List (List Messages)) → All (All IsRequest) (synced ++ later) → later ≡ left ++ gone → All (All IsRequest) (synced ++ left)
left_short synced later left gone short parts =
    short_first (synced ++ left) gone
    (subst (λ (bs : List (List Messages)). All (All IsRequest) bs) (ap (λ (bs : List (List Messages)). synced ++ bs) parts ∙ sym (append_assoc synced left gone)) short)

pub cut_taken : (text : List ℕ) (head : Head) (synced later : List (List Messages)) (zone : List Record) (updates : List Update) (n : ℕ) (start : Recovery)
    → IsStore text head (synced ++ later) zone updates → IsStarted text (take (length (journal_of head synced) + n) (journal_of head (synced ++ later))) start
    → (k : ℕ) × (length (updates_in synced) ≤ k) × (k ≤ length updates) × (start.newest.last.zone ≡ replay zone (take k updates)) × (start.newest.last.number ≡ k)
cut_taken text head synced later zone updates n start store is =
    let cut = cut_is head synced later n store.fit in
    let batches : List (List Messages) = synced ++ cut.left in
    let left = left_of text head synced later cut.left cut.gone zone updates store cut.parts in
    let found = cut_recovered text cut.rest head start.head batches is.messages start.number start.end is.torn store.is_head cut.fit
    (left_short synced later cut.left cut.gone store.short cut.parts) cut.no_more
    (subst (λ (o : List ℕ). IsRecovered text o start.head is.messages start.number start.end is.torn) cut.spelt is.recovered) in
    let reported = replayed_as zone is.zone (updates_in batches) is.messages (take left.k updates) start.newest
    (one_zone (zone_of_text [] text) zone is.zone store.is_zone is.is_zone) found.1 left.read is.replayed in
    let many : length (take left.k updates) ≡ left.k = omega (arith, length-take left.k updates, left.most) in
    (left.k, left.least, left.most, reported.0, reported.1 ∙ many)

-- a refusal of what is left of a journal is damage
refused_left : (text left : List ℕ) (head : Head) (batches : List (List Messages)) (why : Refused) → IsHead head → IsText head.text text → Fit 0 (map batch_of batches)
    → All (All IsRequest) batches → NoFrame (salt_of head) (0 + length (map batch_of batches)) left → IsRefused text (journal_of head batches ++ left) why → why ≢ Starved
    → (at : ℕ) × (why ≡ Damaged at)
refused_left text left head batches (BadHead fault) is same fit short none refused other =
    let behind : List ℕ = frames_of (salt_of head) 0 (map batch_of batches) in
    absurd (no_fault head (behind ++ left) fault is
    (subst (λ (o : List ℕ). IsRefused text o (BadHead fault)) (append_assoc (head_of head) behind left) refused))
refused_left text left head batches OtherText is same fit short none refused other =
    let behind : List ℕ = frames_of (salt_of head) 0 (map batch_of batches) in
    let one = one_head head refused.0 (behind ++ left) refused.1 is refused.2.is_head (sym (append_assoc (head_of head) behind left) ∙ refused.2.spelt) in
    absurd (refused.3 (subst (λ (h : Head). IsText h.text text) one.0 same))
refused_left text left head batches (Damaged at) is same fit short none refused other = (at, refl)
refused_left text left head batches (NoBatch number) is same fit short none refused other =
    let read = bodies_read head refused.head batches left refused.bodies refused.rest is fit none refused.opened in
    absurd (not_no_batch refused.bodies batches number short read.1 refused.no_batch)
refused_left text left head batches Starved is same fit short none refused other = absurd (other refl)

pub cut_accepted : (text : List ℕ) (head : Head) (synced later : List (List Messages)) (zone : List Record) (updates : List Update) (n : ℕ) (fault : StartFault)
    → IsStore text head (synced ++ later) zone updates → IsStartFault text (take (length (journal_of head synced) + n) (journal_of head (synced ++ later))) fault
    → (fault ≡ NoMemory) ⊎ ((at : ℕ) × (fault ≡ Journal (Damaged at)))
cut_accepted text head synced later zone updates n fault store is =
    let cut = cut_is head synced later n store.fit in
    let batches : List (List Messages) = synced ++ cut.left in
    let octets : List ℕ = journal_of head batches ++ cut.rest in
    let left = left_of text head synced later cut.left cut.gone zone updates store cut.parts in
    let short = left_short synced later cut.left cut.gone store.short cut.parts in
    let faults = faults_left text octets head (updates_in batches) zone (take left.k updates) fault store.is_zone store.serial left.read left.taken
    (λ (other : Head) (reported : List Messages) (sound : IsSound text octets other reported).
    cut_recovered text cut.rest head other batches reported sound.number sound.end sound.torn store.is_head cut.fit short cut.no_more sound.recovered)
    (subst (λ (o : List ℕ). IsStartFault text o fault) cut.spelt is) in
    by_left cut.rest batches cut.fit short cut.no_more faults
  where
    by_left : (rest : List ℕ) (batches : List (List Messages)) → Fit 0 (map batch_of batches) → All (All IsRequest) batches → NoFrame (salt_of head) (0 + length (map batch_of batches)) rest
        → (fault ≡ NoMemory) ⊎ ((why : Refused) × (fault ≡ Journal why) × IsRefused text (journal_of head batches ++ rest) why × (why ≢ Starved))
        → (fault ≡ NoMemory) ⊎ ((at : ℕ) × (fault ≡ Journal (Damaged at)))
    by_left rest batches fit short none (inl memory) = inl memory
    by_left rest batches fit short none (inr other) =
        let damage = refused_left text rest head batches other.0 store.is_head store.same_text fit short none other.2 other.3 in
        inr (damage.0, other.1 ∙ ap Journal damage.1)
