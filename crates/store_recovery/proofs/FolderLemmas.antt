-- What a folder means, and what each step of a compaction leaves of it.
use Rattle.std.proofs.Common.{◌≡◌, ◌≢◌, ◌==◌, ℕ, Bool, true, false, List, [], length, take, drop, map, Option, None, Some, Result, Ok, if◌then◌else◌, refl, sym, ap, ◌∙◌, subst}
use Rattle.std.proofs.lemmas.Bool.{ne_eqb}
use Rattle.dns_rdata.specs.Record.{Record}
use Rattle.dns_message.specs.declared.update.Update.{Update}
use Rattle.master_file.specs.declared.fault.FileFault.{FileFault}
use Rattle.master_file.specs.ZoneText.{zone_of_text}
use Rattle.journal.specs.declared.heads.Head.{Head}
use Rattle.journal.specs.Batch.{Messages, batch_of}
use Rattle.journal.specs.Frame.{frames_of, IsRead}
use Rattle.journal.specs.Head.{salt_of}
use Rattle.journal.specs.Recovered.{journal_of, updates_in}
use Rattle.journal.proofs.FramesLemmas.{read_once, written_read}
use Rattle.journal.proofs.HeadLemmas.{one_head}
use Rattle.journal.proofs.RecoveredLemmas.{same_batches, written_recovered}
use Rattle.update_core.specs.Act.{replay}
use Rattle.store_recovery.specs.declared.fault.StartFault.{StartFault}
use Rattle.store_recovery.specs.declared.fault.StartFault.TheVariants.{NoMemory}
use Rattle.store_recovery.specs.declared.start.Recovery.{Recovery}
use Rattle.store_recovery.specs.Replay.{AreRead}
use Rattle.store_recovery.specs.Start.{IsStarted, IsStartFault}
use Rattle.store_recovery.specs.Store.{IsStore}
use Rattle.store_recovery.proofs.ReadLemmas.{read_once as updates_once}
use Rattle.store_recovery.proofs.StoreLemmas.{store_taken, store_accepted}
use Rattle.store_recovery.specs.Behind.{AreBehind}
use Rattle.store_recovery.specs.Folder.{Folder, Means, HasPair, with_text, without_text, with_journal}
use Rattle.store_recovery.proofs.CompactedLemmas.{compacted_store}

-- a file's octets, and a text's zone, are one
one_file : (file : Option (List ℕ)) (octets other : List ℕ) → file ≡ Some octets → file ≡ Some other → octets ≡ other
one_file file octets other one two = cc

one_zone : (read : Result (List Record) FileFault) (zone other : List Record) → read ≡ Ok zone → read ≡ Ok other → zone ≡ other
one_zone read zone other one two = cc

-- a journal's head and batches are one
one_journal : (text other_text : List ℕ) (head other : Head) (batches others : List (List Messages)) (zone other_zone : List Record) (updates other_updates : List Update)
    → IsStore text head batches zone updates → IsStore other_text other others other_zone other_updates → journal_of head batches ≡ journal_of other others
    → (head ≡ other) × (batches ≡ others)
one_journal text other_text head other batches others zone other_zone updates other_updates store also same =
    let bodies : List (List ℕ) = map batch_of batches in
    let left : List (List ℕ) = map batch_of others in
    let frames : List ℕ = frames_of (salt_of head) 0 bodies in
    let behind : List ℕ = frames_of (salt_of other) 0 left in
    let heads = one_head head other frames behind store.is_head also.is_head same in
    let there : IsRead (salt_of other) 0 frames left [] = subst (λ (o : List ℕ). IsRead (salt_of other) 0 o left []) (sym heads.1) (written_read (salt_of other) 0 left also.fit) in
    let here : IsRead (salt_of head) 0 frames left [] = subst (λ (h : Head). IsRead (salt_of h) 0 frames left []) (sym heads.0) there in
    let once = read_once (salt_of head) 0 frames bodies [] left [] (written_read (salt_of head) 0 bodies store.fit) here in
    (heads.0, same_batches batches others store.short also.short once.0)

-- a folder means one store
pub one_meaning : (folder : Folder) (head other : Head) (batches others : List (List Messages)) (zone other_zone : List Record) (updates other_updates : List Update)
    → Means folder head batches zone updates → Means folder other others other_zone other_updates
    → (head ≡ other) × (batches ≡ others) × (zone ≡ other_zone) × (updates ≡ other_updates)
one_meaning folder head other batches others zone other_zone updates other_updates means also =
    let octets : journal_of head batches ≡ journal_of other others = one_file folder.journal (journal_of head batches) (journal_of other others) means.journal also.journal in
    let same = one_journal means.text also.text head other batches others zone other_zone updates other_updates means.store also.store octets in
    let text : means.text ≡ also.text =
    one_file (folder.texts head.number) means.text also.text means.there (ap (λ (h : Head). folder.texts h.number) same.0 ∙ also.there) in
    let read : AreRead (updates_in batches) other_updates = subst (λ (bs : List (List Messages)). AreRead (updates_in bs) other_updates) (sym same.1) also.store.read in (
      same.0,
      same.1,
      one_zone (zone_of_text [] means.text) zone other_zone means.store.is_zone (ap (λ (o : List ℕ). zone_of_text [] o) text ∙ also.store.is_zone),
      updates_once (updates_in batches) updates other_updates means.store.read read,
    )

never : true ≡ false → ⊥
never e = cc

-- a file of another number
kept : (test : Bool) (given was : Option (List ℕ)) → test ≡ false → (if test then given else was) ≡ was
kept true given was e = absurd (never e)
kept false given was e = refl

other_kept : (texts : ℕ → Option (List ℕ)) (n number : ℕ) (given : Option (List ℕ)) → number ≢ n → (if n == number then given else texts n) ≡ texts n
other_kept texts n number given differs = kept (n == number) given (texts n) (ne_eqb n number (λ e. differs (sym e)))

-- a text that the journal doesn't name is written, or goes
pub text_written : (folder : Folder) (head : Head) (batches : List (List Messages)) (zone : List Record) (updates : List Update) (number : ℕ) (text : List ℕ)
    → Means folder head batches zone updates → number ≢ head.number → Means (with_text folder number text) head batches zone updates
text_written folder head batches zone updates number text means differs = record {
  text = means.text;
  journal = means.journal;
  there = other_kept folder.texts head.number number (Some text) differs ∙ means.there;
  store = means.store;
}

pub text_removed : (folder : Folder) (head : Head) (batches : List (List Messages)) (zone : List Record) (updates : List Update) (number : ℕ)
    → Means folder head batches zone updates → number ≢ head.number → Means (without_text folder number) head batches zone updates
text_removed folder head batches zone updates number means differs = record {
  text = means.text;
  journal = means.journal;
  there = other_kept folder.texts head.number number None differs ∙ means.there;
  store = means.store;
}

-- a journal that names another text is renamed over it
pub journal_renamed : (folder : Folder) (head next : Head) (batches rest : List (List Messages)) (zone : List Record) (updates : List Update) (k : ℕ) (written : List ℕ)
    → Means folder head batches zone updates → folder.texts next.number ≡ Some written → IsStore written next [] (replay zone (take k updates)) [] → AreBehind k batches rest
    → Means (with_journal folder (journal_of next rest)) next rest (replay zone (take k updates)) (drop k updates)
journal_renamed folder head next batches rest zone updates k written means there begun behind = record {
  text = written;
  journal = refl;
  there = there;
  store = compacted_store means.text written head next batches rest zone updates k means.store begun behind;
}

-- what a start reads of a folder that means a store: its journal and its zone text
pair_read : (folder : Folder) (head : Head) (batches : List (List Messages)) (zone : List Record) (updates : List Update) (octets text : List ℕ)
    → (means : Means folder head batches zone updates) → HasPair folder octets text → (octets ≡ journal_of head batches) × (text ≡ means.text)
pair_read folder head batches zone updates octets text means pair =
    let same : octets ≡ journal_of head batches = one_file folder.journal octets (journal_of head batches) pair.journal means.journal in
    let one = one_head pair.head head pair.behind (frames_of (salt_of head) 0 (map batch_of batches)) pair.begins.is_head means.store.is_head (sym pair.begins.spelt ∙ same) in
    (same, one_file (folder.texts head.number) text means.text (ap (λ (h : Head). folder.texts h.number) (sym one.0) ∙ pair.there) means.there)

-- and a start of it
pub folder_taken : (folder : Folder) (head : Head) (batches : List (List Messages)) (zone : List Record) (updates : List Update) (octets text : List ℕ) (start : Recovery)
    → Means folder head batches zone updates → HasPair folder octets text → IsStarted text octets start
    → (start.head ≡ head) × (start.newest.last.zone ≡ replay zone updates) × (start.newest.last.number ≡ length updates)
folder_taken folder head batches zone updates octets text start means pair is =
    let same = pair_read folder head batches zone updates octets text means pair in
    let read : IsStarted text (journal_of head batches) start = subst (λ (o : List ℕ). IsStarted text o start) same.0 is in
    let here : IsStarted means.text (journal_of head batches) start = subst (λ (t : List ℕ). IsStarted t (journal_of head batches) start) same.1 read in
    let found = written_recovered means.text head start.head batches here.messages start.number start.end here.torn means.store.is_head means.store.fit means.store.short here.recovered in
    let last = store_taken means.text head batches zone updates start means.store here in
    (found.0, last.0, last.1)

pub folder_accepted : (folder : Folder) (head : Head) (batches : List (List Messages)) (zone : List Record) (updates : List Update) (octets text : List ℕ) (fault : StartFault)
    → Means folder head batches zone updates → HasPair folder octets text → IsStartFault text octets fault → fault ≡ NoMemory
folder_accepted folder head batches zone updates octets text fault means pair is =
    let same = pair_read folder head batches zone updates octets text means pair in
    let read : IsStartFault text (journal_of head batches) fault = subst (λ (o : List ℕ). IsStartFault text o fault) same.0 is in
    store_accepted means.text head batches zone updates fault means.store (subst (λ (t : List ℕ). IsStartFault t (journal_of head batches) fault) same.1 read)
