-- What a crash leaves of a store's folder, and what is chosen at a start behind a compaction.
use Rattle.std.proofs.Common.{◌≡◌, ℕ, ◌≤◌, List, ◌++◌, length, take, drop, map, Option, Some, sym, ap, ◌∙◌, subst, append_assoc}
use Rattle.dns_name.specs.Name.{Name}
use Rattle.dns_rdata.specs.Record.{Record}
use Rattle.dns_message.specs.declared.update.Update.{Update}
use Rattle.update_core.specs.Act.{replay}
use Rattle.dns_engine.specs.Replayed.{EachChanges}
use Rattle.journal.specs.declared.heads.Head.{Head}
use Rattle.journal.specs.declared.heads.TextSum.{TextSum}
use Rattle.journal.specs.Batch.{Messages, batch_of}
use Rattle.journal.specs.Frame.{frames_of}
use Rattle.journal.specs.Head.{head_of, salt_of}
use Rattle.journal.specs.Recovered.{journal_of}
use Rattle.journal.proofs.HeadLemmas.{one_head}
use Rattle.journal.proofs.RecoveredLemmas.{synced_recovered, written_recovered}
use Rattle.store_recovery.specs.declared.start.Recovery.{Recovery}
use Rattle.store_recovery.specs.Start.{IsStarted}
use Rattle.store_recovery.specs.Store.{IsStore}
use Rattle.store_recovery.proofs.StoreLemmas.{synced_taken}
use Rattle.store_recovery.specs.declared.choices.Choice.{Choice}
use Rattle.store_recovery.specs.declared.choices.Take.{Take}
use Rattle.store_recovery.specs.Created.{IsCreated}
use Rattle.store_recovery.specs.Behind.{AreBehind}
use Rattle.store_recovery.specs.Choice.{IsChoice}
use Rattle.store_recovery.specs.Folder.{Folder, Means, HasPair, with_journal}
use Rattle.store_recovery.proofs.CompactedLemmas.{compacted_store, compacted_started}

one_file : (file : Option (List ℕ)) (octets other : List ℕ) → file ≡ Some octets → file ≡ Some other → octets ≡ other
one_file file octets other one two = cc

-- whatever stands behind the batches
pub crash_started : (folder : Folder) (head : Head) (batches : List (List Messages)) (zone : List Record) (updates : List Update) (left octets text : List ℕ) (start : Recovery)
    → Means folder head batches zone updates → HasPair (with_journal folder (journal_of head batches ++ left)) octets text → IsStarted text octets start
    → (start.head ≡ head) × ((more : List Update) × EachChanges zone (updates ++ more) × (start.newest.last.zone ≡ replay zone (updates ++ more))
    × (start.newest.last.number ≡ length (updates ++ more)))
crash_started folder head batches zone updates left octets text start means pair is =
    let there : List ℕ = journal_of head batches ++ left in
    let frames : List ℕ = frames_of (salt_of head) 0 (map batch_of batches) in
    let same : octets ≡ there = one_file (Some there) octets there pair.journal (λ i. Some there) in
    let spelt : head_of pair.head ++ pair.behind ≡ head_of head ++ (frames ++ left) =
    sym pair.begins.spelt ∙ (same ∙ append_assoc (head_of head) frames left) in
    let one = one_head pair.head head pair.behind (frames ++ left) pair.begins.is_head means.store.is_head spelt in
    let texts : text ≡ means.text =
    one_file (folder.texts head.number) text means.text (ap (λ (h : Head). folder.texts h.number) (sym one.0) ∙ pair.there) means.there in
    let here : IsStarted means.text there start =
    subst (λ (t : List ℕ). IsStarted t there start) texts (subst (λ (o : List ℕ). IsStarted text o start) same is) in
    let found = synced_recovered means.text left head start.head batches here.messages start.number start.end here.torn means.store.is_head means.store.fit means.store.short here.recovered in
    (found.1, synced_taken means.text left head batches zone updates start means.store here)

-- the text that all began from is the same, and so is the last version
pub same_choice : (text written : List ℕ) (head next : Head) (batches rest : List (List Messages)) (zone : List Record) (updates : List Update) (k number : ℕ)
    (random : List ℕ) (start later : Recovery) (origin : Name) (given : List ℕ) (taken : Option Take) (choice : Choice)
    → IsStore text head batches zone updates → k ≤ length updates → IsCreated (replay zone (take k updates)) number random head.origin written next → AreBehind k batches rest
    → IsStarted text (journal_of head batches) start → IsStarted written (journal_of next rest) later
    → IsChoice start.head.origin start.newest.last.zone origin given taken choice
    → IsChoice later.head.origin later.newest.last.zone origin given taken choice
same_choice text written head next batches rest zone updates k number random start later origin given taken choice store few begun behind is is_later chosen =
    let left : IsStore written next rest (replay zone (take k updates)) (drop k updates) =
    compacted_store text written head next batches rest zone updates k store begun.store behind in
    let one = written_recovered text head start.head batches is.messages start.number start.end is.torn store.is_head store.fit store.short is.recovered in
    let two = written_recovered written next later.head rest is_later.messages later.number later.end is_later.torn left.is_head left.fit left.short is_later.recovered in
    let origins : start.head.origin ≡ later.head.origin =
    ap (λ (h : Head). h.origin) one.0 ∙ (sym begun.given ∙ ap (λ (h : Head). h.origin) (sym two.0)) in
    let zones = compacted_started text written head next batches rest zone updates k start later store begun.store behind few is is_later in
    subst (λ (o : TextSum). IsChoice o later.newest.last.zone origin given taken choice) origins
    (subst (λ (z : List Record). IsChoice start.head.origin z origin given taken choice) zones.0 chosen)
