-- Recent updates as the end of a store, and what a compaction leaves.
use Rattle.std.proofs.Common.{◌≡◌, ℕ, ◌+◌, ◌^◌, ◌<◌, ◌≤◌, List, [], ◌∷◌, ◌++◌, length, take, drop, map, refl, sym, ap, ◌∙◌, subst, append-nil, length-append, arith}
use Rattle.std.specs.Prelude.{All}
use Rattle.std.proofs.lemmas.List.{map-append, drop-append-le, take-append-le, length-map, length-drop, drop-drop}
use Rattle.std.proofs.lemmas.List.Elements.{All-nil, All-cons, All-head, All-tail, All-append}
use Rattle.std.proofs.Math.Seq.{drop-append_seam}
use Rattle.dns_rdata.specs.Record.{Record}
use Rattle.dns_message.specs.declared.update.Update.{Update}
use Rattle.zone_tree.specs.Version.{Version}
use Rattle.update_core.specs.Act.{replay}
use Rattle.dns_engine.specs.Replayed.{EachChanges}
use Rattle.update_batches.specs.Batch.{newest_of}
use Rattle.update_batches.specs.Journal.{AreMadeBy}
use Rattle.journal.specs.declared.heads.Head.{Head}
use Rattle.journal.specs.declared.heads.TextSum.{TextSum}
use Rattle.journal.specs.Batch.{Messages, request_octets, batch_of, IsRequest}
use Rattle.journal.specs.Frame.{body_limit, Fit}
use Rattle.journal.specs.Recovered.{journal_of, updates_in}
use Rattle.journal.proofs.FramesLemmas.{fit_more}
use Rattle.store_recovery.specs.declared.start.Recovery.{Recovery}
use Rattle.store_recovery.specs.Replay.{AreRead}
use Rattle.store_recovery.specs.Start.{IsStarted}
use Rattle.store_recovery.specs.Store.{IsStore}
use Rattle.store_recovery.proofs.ReadLemmas.{read_once, read_long, read_first}
use Rattle.store_recovery.proofs.StoreLemmas.{store_taken}
use Rattle.store_recovery.specs.Created.{IsCreated}
use Rattle.store_recovery.specs.Behind.{AreBehind}
use Rattle.store_recovery.proofs.CompactedLemmas.{replay_parts, replay_rest, compacted_store}
use Rattle.store_compaction.specs.declared.marked.Compaction.{Compaction}
use Rattle.update_batches.specs.declared.version_update.VersionUpdate.{VersionUpdate}
use Rattle.store_compaction.specs.RecentUpdates.{RecentState, last_in, followed}
use Rattle.update_batches.specs.Batch.{versions_in, updates_of}
use Rattle.store_compaction.specs.Marked.{bodies_of, IsMarked}
use Rattle.store_compaction.specs.End.{IsEndOf}
use Rattle.store_compaction.proofs.RecentLemmas.{versions-append, updates_of-append, followed_is, followed_split, made_behind}
use Rattle.store_compaction.proofs.MadeLemmas.{Leads, made_leads, changes_both, read_both, read_behind, made_first}
use Rattle.store_compaction.proofs.MarkedLemmas.{short_steps, one_more}

-- the last version of a store is that of its recent updates
pub last_is : (text : List ℕ) (head : Head) (batches : List (List Messages)) (zone : List Record) (updates : List Update) (recent : RecentState) (k : ℕ)
    → IsEndOf text head batches zone updates recent k → (last_in recent).zone ≡ replay zone updates
last_is text head batches zone updates recent k end =
    let leads : Leads recent.oldest.zone (last_in recent).zone (updates_of recent.steps) = made_leads recent.oldest (versions_in recent.steps) (updates_of recent.steps) end.made in
    let read : AreRead (drop k (updates_in batches)) (drop k updates) = read_behind k (updates_in batches) updates end.store.read in
    let others : leads.updates ≡ drop k updates =
    read_once (drop k (updates_in batches)) leads.updates (drop k updates) (subst (λ (ms : List Messages). AreRead ms leads.updates) end.rest leads.read) read in
    leads.same
    ∙ (ap (λ (z : List Record). replay z leads.updates) end.oldest
    ∙ (ap (λ (us : List Update). replay (replay zone (take k updates)) us) others ∙ replay_rest zone updates k))

-- a store that begins with a version
pub begun_end : (text : List ℕ) (head : Head) (number keep : ℕ) (random : List ℕ) (origin : TextSum) (version : Version) → IsCreated version.zone number random origin text head
    → IsEndOf text head [] version.zone [] (record { oldest = version; steps = []; keep = keep }) 0
begun_end text head number keep random origin version begun = record { store = begun.store; within = omega arith; oldest = refl; rest = refl; made = tt }

-- a store with one batch more
pub store_more : (text : List ℕ) (head : Head) (batches : List (List Messages)) (zone : List Record) (updates more : List Update) (batch : List Messages) → IsStore text head batches zone updates
    → All IsRequest batch → length (batch_of batch) < body_limit → length batches < 2 ^ 64 → AreRead batch more → EachChanges (replay zone updates) more
    → IsStore text head (batches ++ batch ∷ []) zone (updates ++ more)
store_more text head batches zone updates more batch store short few counted read taken = record {
  is_head = store.is_head;
  same_text = store.same_text;
  is_zone = store.is_zone;
  serial = store.serial;
  short = All-append (All IsRequest) batches (batch ∷ []) store.short (All-cons (All IsRequest) batch [] short (All-nil (All IsRequest)));
  fit = subst (λ (bodies : List (List ℕ)). Fit 0 bodies) (sym (map-append batch_of batches (batch ∷ [])))
      (fit_more 0 (map batch_of batches) (batch_of batch) store.fit few (omega (arith, length-map batches batch_of, counted)));
  read = subst (λ (ms : List Messages). AreRead ms (updates ++ more)) (sym (one_more batches batch)) (read_both (updates_in batches) batch updates more store.read read);
  taken = changes_both zone updates more store.taken taken;
}

-- the version behind steps that are let go
record Moved (zone : List Record) (messages : List Messages) (updates : List Update) (recent after : RecentState) (k : ℕ) : Type 0 where
  n : ℕ
  within : k + n ≤ length updates
  oldest : after.oldest.zone ≡ replay zone (take (k + n) updates)
  rest : updates_of after.steps ≡ drop (k + n) messages

moved : (zone : List Record) (messages : List Messages) (updates : List Update) (recent after : RecentState) (k : ℕ) (gone all : List VersionUpdate) → AreRead messages updates → k ≤ length updates
    → recent.oldest.zone ≡ replay zone (take k updates) → updates_of all ≡ drop k messages → AreMadeBy recent.oldest (versions_in all) (updates_of all) → all ≡ gone ++ after.steps
    → after.oldest ≡ newest_of recent.oldest (versions_in gone) → Moved zone messages updates recent after k
moved zone messages updates recent after k gone all read within oldest rest made parts newest =
    let n : ℕ = length gone in
    let split : updates_of all ≡ updates_of gone ++ updates_of after.steps = ap updates_of parts ∙ updates_of-append gone after.steps in
    let versions : versions_in all ≡ versions_in gone ++ versions_in after.steps = ap versions_in parts ∙ versions-append gone after.steps in
    let both : AreMadeBy recent.oldest (versions_in gone ++ versions_in after.steps) (updates_of gone ++ updates_of after.steps) =
    subst (λ (us : List Messages). AreMadeBy recent.oldest (versions_in gone ++ versions_in after.steps) us) split
    (subst (λ (vs : List Version). AreMadeBy recent.oldest vs (updates_of all)) versions made) in
    let many : length (versions_in gone) ≡ length (updates_of gone) =
    length-map gone (λ (s : VersionUpdate). s.version) ∙ sym (length-map gone (λ (s : VersionUpdate). s.messages)) in
    let leads = made_leads recent.oldest (versions_in gone) (updates_of gone)
    (made_first recent.oldest (versions_in gone) (versions_in after.steps) (updates_of gone) (updates_of after.steps) many both) in
    let dropped : drop k messages ≡ updates_of gone ++ updates_of after.steps = sym rest ∙ split in
    let behind : AreRead (updates_of gone ++ updates_of after.steps) (drop k updates) =
    subst (λ (ms : List Messages). AreRead ms (drop k updates)) dropped (read_behind k messages updates read) in
    let is_n : length (updates_of gone) ≡ n = length-map gone (λ (s : VersionUpdate). s.messages) in
    let first : AreRead (updates_of gone) (take n (drop k updates)) =
    subst (λ (m : ℕ). AreRead (updates_of gone) (take m (drop k updates))) is_n (read_first (updates_of gone) (updates_of after.steps) (drop k updates) behind) in
    let same : leads.updates ≡ take n (drop k updates) = read_once (updates_of gone) leads.updates (take n (drop k updates)) leads.read first in
    let long : length (drop k updates) ≡ length (updates_of gone ++ updates_of after.steps) = read_long (updates_of gone ++ updates_of after.steps) (drop k updates) behind in
    record {
      n = n;
      within = omega (arith, within, long, is_n, length-drop k updates, length-append (updates_of gone) (updates_of after.steps));
      oldest = ap (λ (v : Version). v.zone) newest
          ∙ (leads.same ∙ (ap (λ (z : List Record). replay z leads.updates) oldest
          ∙ (ap (λ (us : List Update). replay (replay zone (take k updates)) us) same ∙ replay_parts zone updates k n)));
      rest = sym (drop-append_seam (updates_of gone) (updates_of after.steps))
          ∙ (ap (λ (m : ℕ). drop m (updates_of gone ++ updates_of after.steps)) is_n ∙ (ap (λ (ms : List Messages). drop n ms) (sym dropped) ∙ drop-drop n k messages));
    }

-- a store with a batch more, once its steps follow
pub end_more : (text : List ℕ) (head : Head) (batches : List (List Messages)) (zone : List Record) (updates : List Update) (recent : RecentState) (k : ℕ) (steps : List VersionUpdate)
    → IsEndOf text head batches zone updates recent k → AreMadeBy (last_in recent) (versions_in steps) (updates_of steps)
    → length (batch_of (updates_of steps)) < body_limit → length batches < 2 ^ 64
    → (more : List Update) × (m : ℕ) × (k ≤ m) × IsEndOf text head (batches ++ updates_of steps ∷ []) zone (updates ++ more) (followed recent steps) m
end_more text head batches zone updates recent k steps end made few counted =
    let batch : List Messages = updates_of steps in
    let leads = made_leads (last_in recent) (versions_in steps) batch made in
    let more : List Update = leads.updates in
    let last : (last_in recent).zone ≡ replay zone updates = last_is text head batches zone updates recent k end in
    let store : IsStore text head (batches ++ batch ∷ []) zone (updates ++ more) =
    store_more text head batches zone updates more batch end.store (short_steps steps) few counted leads.read (subst (λ (z : List Record). EachChanges z more) last leads.taken) in
    let messages : List Messages = updates_in (batches ++ batch ∷ []) in
    let long : length updates ≡ length (updates_in batches) = read_long (updates_in batches) updates end.store.read in
    let all : updates_of (recent.steps ++ steps) ≡ drop k messages =
    updates_of-append recent.steps steps
    ∙ (ap (λ (us : List Messages). us ++ batch) end.rest
    ∙ (sym (drop-append-le k (updates_in batches) batch (omega (arith, end.within, long))) ∙ ap (λ (ms : List Messages). drop k ms) (sym (one_more batches batch)))) in
    let whole : AreMadeBy recent.oldest (versions_in (recent.steps ++ steps)) (updates_of (recent.steps ++ steps)) =
    subst (λ (us : List Messages). AreMadeBy recent.oldest (versions_in (recent.steps ++ steps)) us) (sym (updates_of-append recent.steps steps))
    (subst (λ (vs : List Version). AreMadeBy recent.oldest vs (updates_of recent.steps ++ batch)) (sym (versions-append recent.steps steps))
    (made_behind recent.oldest (versions_in recent.steps) (versions_in steps) (updates_of recent.steps) batch end.made made)) in
    let split = followed_split recent steps in
    let oldest : recent.oldest.zone ≡ replay zone (take k (updates ++ more)) =
    end.oldest ∙ ap (λ (us : List Update). replay zone us) (sym (take-append-le k updates more end.within)) in
    let move = moved zone messages (updates ++ more) recent (followed recent steps) k split.gone (recent.steps ++ steps) store.read
    (omega (arith, end.within, length-append updates more)) oldest all whole split.parts split.oldest in (
      more,
      k + move.n,
      omega arith,
      record { store = store; within = move.within; oldest = move.oldest; rest = move.rest; made = (followed_is recent steps end.made made).0 },
    )

-- updates, each as a batch of its own
abbrev alone : List Messages → List (List Messages)
alone updates = map (λ (one : Messages). one ∷ []) updates

alone_all : (updates : List Messages) → updates_in (alone updates) ≡ updates
alone_all [] = refl
alone_all (one ∷ updates) = ap (λ (us : List Messages). one ∷ us) (alone_all updates)

alone_short : (updates : List Messages) → All IsRequest updates → All (All IsRequest) (alone updates)
alone_short [] short = All-nil (All IsRequest)
alone_short (one ∷ updates) short =
    All-cons (All IsRequest) (one ∷ []) (alone updates) (All-cons IsRequest one [] (All-head IsRequest one updates short) (All-nil IsRequest))
    (alone_short updates (All-tail IsRequest one updates short))

alone_fit : (number : ℕ) (steps : List VersionUpdate) → number + length steps < 2 ^ 64 → Fit number (map batch_of (alone (updates_of steps)))
alone_fit number [] few = tt
alone_fit number (step ∷ steps) few = (
  subst (λ (o : List ℕ). length o < body_limit) (sym (append-nil (request_octets step.messages))) step.short,
  omega (arith, few),
  alone_fit (number + 1) steps (omega (arith, few)),
)

alone_bodies : (updates : List Messages) → map (λ (one : Messages). batch_of (one ∷ [])) updates ≡ map batch_of (alone updates)
alone_bodies [] = refl
alone_bodies (one ∷ updates) = ap (λ (bodies : List (List ℕ)). batch_of (one ∷ []) ∷ bodies) (alone_bodies updates)

-- the recent updates that are kept come after their oldest version
pub behind_end : (text : List ℕ) (head : Head) (batches : List (List Messages)) (zone : List Record) (updates : List Update) (recent : RecentState) (k : ℕ)
    → IsEndOf text head batches zone updates recent k → length recent.steps ≤ 8 → AreBehind k batches (alone (updates_of recent.steps))
behind_end text head batches zone updates recent k end few = record {
  all = alone_all (updates_of recent.steps) ∙ end.rest;
  short = alone_short (updates_of recent.steps) (short_steps recent.steps);
  fit = alone_fit 0 recent.steps (omega (arith, few));
}

pub marked_end : (compaction : Compaction) (text : List ℕ) (head : Head) (batches : List (List Messages)) (zone : List Record) (updates : List Update) (recent : RecentState) (k : ℕ)
    → bodies_of compaction ≡ map (λ messages. batch_of (messages ∷ [])) (updates_of recent.steps) → length recent.steps ≤ 8 → IsEndOf text head batches zone updates recent k → IsMarked k batches compaction
marked_end compaction text head batches zone updates recent k bodies few end = record {
  rest = alone (updates_of recent.steps);
  behind = behind_end text head batches zone updates recent k end few;
  bodies = bodies ∙ alone_bodies (updates_of recent.steps);
}

-- what a compaction leaves is a store
pub compaction_store : (text written : List ℕ) (head next : Head) (batches : List (List Messages)) (zone : List Record) (updates : List Update) (k number : ℕ)
    (random : List ℕ) (origin : TextSum) (version : Version) (compaction : Compaction)
    → IsStore text head batches zone updates → version.zone ≡ replay zone (take k updates) → IsCreated version.zone number random origin written next
    → IsMarked k batches compaction
    → (rest : List (List Messages)) × (bodies_of compaction ≡ map batch_of rest) × IsStore written next rest version.zone (drop k updates)
compaction_store text written head next batches zone updates k number random origin version compaction store same begun marked =
    let here : IsStore written next [] (replay zone (take k updates)) [] = subst (λ (z : List Record). IsStore written next [] z []) same begun.store in
    let left = compacted_store text written head next batches marked.rest zone updates k store here marked.behind in
    (marked.rest, marked.bodies, subst (λ (z : List Record). IsStore written next marked.rest z (drop k updates)) (sym same) left)

-- a start of either has the same zone
pub compaction_started : (text written : List ℕ) (head next : Head) (batches rest : List (List Messages)) (zone : List Record) (updates : List Update) (k : ℕ) (start later : Recovery)
    → IsStore text head batches zone updates → k ≤ length updates → IsStore written next rest (replay zone (take k updates)) (drop k updates)
    → IsStarted text (journal_of head batches) start → IsStarted written (journal_of next rest) later
    → (start.newest.last.zone ≡ later.newest.last.zone) × (start.newest.last.number ≡ k + later.newest.last.number)
compaction_started text written head next batches rest zone updates k start later store few left is is_later =
    let one = store_taken text head batches zone updates start store is in
    let two = store_taken written next rest (replay zone (take k updates)) (drop k updates) later left is_later in
    (one.0 ∙ (sym (replay_rest zone updates k) ∙ sym two.0), omega (arith, few, one.1, two.1, length-drop k updates))

-- recent updates of the store before are those of the store that is left
pub end_left : (text written : List ℕ) (head next : Head) (batches rest : List (List Messages)) (zone : List Record) (updates : List Update) (recent : RecentState) (k m : ℕ)
    → IsEndOf text head batches zone updates recent (k + m) → IsStore written next [] (replay zone (take k updates)) [] → AreBehind k batches rest
    → IsEndOf written next rest (replay zone (take k updates)) (drop k updates) recent m
end_left text written head next batches rest zone updates recent k m end begun behind = record {
  store = compacted_store text written head next batches rest zone updates k end.store begun behind;
  within = omega (arith, end.within, length-drop k updates);
  oldest = end.oldest ∙ sym (replay_parts zone updates k m);
  rest = end.rest ∙ (sym (drop-drop m k (updates_in batches)) ∙ ap (λ (ms : List Messages). drop m ms) (sym behind.all));
  made = end.made;
}
