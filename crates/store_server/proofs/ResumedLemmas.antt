-- A store that a start has given, and who writes it.
use Rattle.std.proofs.Common.{◌≡◌, ◌⊎◌, ℕ, zero, suc, ◌+◌, ◌-◌, ◌<◌, ◌≤◌, List, [], ◌∷◌, ◌++◌, length, take, drop, map, Option, None, Some, inl, inr, refl, sym, ap, ◌∙◌, subst, append_assoc, length-append, arith}
use Rattle.std.specs.Prelude.{All, Bool, true, false, nat_lt, if◌then◌else◌}
use Rattle.std.specs.declared.io.Error.{Error as IoError}
use Rattle.std.proofs.lemmas.List.{length-map, length-drop, drop-drop}
use Rattle.std.proofs.lemmas.List.Elements.{All-nil, All-cons, All-append, All-drop}
use Rattle.std.proofs.Math.Seq.{drop-append_seam}
use Rattle.dns_rdata.specs.Record.{Record}
use Rattle.dns_message.specs.declared.update.Update.{Update}
use Rattle.zone_tree.specs.Version.{Version}
use Rattle.update_core.specs.Act.{replay}
use Rattle.dns_engine.specs.Held.{Held, IsNewest, all_held}
use Rattle.dns_engine.specs.Replayed.{EachChanges}
use Rattle.update_batches.specs.Batch.{newest_of}
use Rattle.update_batches.specs.Journal.{AreMadeBy}
use Rattle.journal.specs.declared.heads.Head.{Head}
use Rattle.journal.specs.Batch.{Messages, request_octets, batch_of}
use Rattle.journal.specs.Frame.{Fit, body_limit}
use Rattle.journal.specs.Recovered.{updates_in}
use Rattle.journal.specs.declared.log.Log.{Log}
use Rattle.journal.specs.Log.{Holds}
use Rattle.store_files.specs.declared.file.FileDisk.{FileDisk}
use Rattle.store_files.specs.File.{written, synced}
use Rattle.store_recovery.specs.declared.start.Recovery.{Recovery}
use Rattle.store_recovery.specs.Replay.{AreRead, IsReplayed, first_version, begun, held_from}
use Rattle.store_recovery.specs.Rebased.{versions_in as newest_in, numbered_from, rebased}
use Rattle.store_recovery.specs.Start.{IsStarted}
use Rattle.store_recovery.specs.Store.{IsStore}
use Rattle.store_recovery.proofs.HeldLemmas.{begun_newest, held_newest}
use Rattle.store_recovery.proofs.ReadLemmas.{read_once, read_long, read_first}
use Rattle.store_recovery.proofs.CompactedLemmas.{replay_parts}
use Rattle.update_batches.specs.declared.version_update.VersionUpdate.{VersionUpdate}
use Rattle.store_compaction.specs.declared.writer.StoreWriter.{StoreWriter}
use Rattle.store_compaction.specs.RecentUpdates.{RecentState, shortened, trimmed, longer, pushed, followed}
use Rattle.update_batches.specs.Batch.{versions_in, updates_of}
use Rattle.store_compaction.specs.Writer.{log_of, recent_of, head_of}
use Rattle.store_compaction.specs.End.{IsEndOf}
use Rattle.store_compaction.proofs.RecentLemmas.{versions-append, updates_of-append, followed_is, followed_split}
use Rattle.store_compaction.proofs.MadeLemmas.{made_leads, read_behind, made_first}
use Rattle.store_compaction.proofs.StandsLemmas.{none_some}
use Rattle.store_server.specs.declared.resume.OpenStore.{OpenStore}
use Rattle.store_server.specs.Started.{GoesOn, IsCreatedStore}
use Rattle.store_server.specs.OpenStore.{IsGiven, WritesOn}
use Rattle.store_server.proofs.RecoveredLemmas.{started_store}
use Rattle.store_server.proofs.ChainLemmas.{chain, chain_long, held_chain, Behind, behind, renumbered, made_chain, changes_behind}

-- the messages of a store's updates
abbrev pub messages_in : OpenStore → List Messages
messages_in store = store.updates.items

-- what a store has on the disk, and that its versions are the last ones: they are made by its updates, which are those behind the first k
pub record Has (store : OpenStore) : Type 0 where
  pub text : List ℕ
  pub batches : List (List Messages)
  pub zone : List Record
  pub updates : List Update
  pub k : ℕ
  pub is : IsStore text store.head batches zone updates
  pub log : Holds written synced store.head store.log (map batch_of batches)
  pub within : k ≤ length updates
  pub oldest : store.first.zone ≡ replay zone (take k updates)
  pub rest : messages_in store ≡ drop k (updates_in batches)
  pub made : AreMadeBy store.first store.later.items (messages_in store)

-- of a store that is begun
has_begun : (zone : List Record) (number : ℕ) (random given : List ℕ) (store : OpenStore) → IsCreatedStore zone number random given store → Has store
has_begun zone number random given store begun =
    let none : messages_in store ≡ [] = begun.updates in
    record {
      text = begun.new.text;
      batches = [];
      zone = zone;
      updates = [];
      k = 0;
      is = begun.new.begun.store;
      log = begun.new.empty;
      within = omega arith;
      oldest = ap (λ (v : Version). v.zone) begun.first;
      rest = none;
      made = subst (λ (us : List Messages). AreMadeBy store.first store.later.items us) (sym none) (subst (λ (vs : List Version). AreMadeBy store.first vs []) (sym begun.later) tt);
    }

first_same : (x y : Version) (xs ys : List Version) → x ∷ xs ≡ y ∷ ys → x ≡ y
first_same x y xs ys e = cc

rest_same : (x y : Version) (xs ys : List Version) → x ∷ xs ≡ y ∷ ys → xs ≡ ys
rest_same x y xs ys e = cc

-- the newest versions of a replay, as a server begins with them
record Newest (zone : List Record) (updates : List Update) (first : Version) (later : List Version) (b : ℕ) : Type 0 where
  within : b ≤ length updates
  zone_is : first.zone ≡ replay zone (take b updates)
  later_is : later ≡ chain first (drop b updates)

newest_is : (zone : List Record) (messages : List Messages) (start : Recovery) (is : IsReplayed zone messages start.newest) (first : Version) (later : List Version)
    → first ∷ later ≡ rebased (newest_in start.newest) → Newest zone is.updates first later (length messages - length start.newest.older.items)
newest_is zone messages start is first later versions =
    let us : List Update = is.updates in
    let v : Version = first_version zone in
    let held : Held = held_from (begun zone) us in
    let n : IsNewest zone held = held_newest zone (begun zone) us (begun_newest zone) is.taken in
    let published : held.published ≡ v ∷ chain v us = held_chain (begun zone) us in
    let parts : held.published ≡ n.before ++ all_held held = n.ends ∙ append_assoc n.before held.older (held.last ∷ []) in
    let b : ℕ = length n.before in
    let long : length us ≡ length messages = read_long messages us is.read in
    let counts : length (v ∷ chain v us) ≡ b + (length held.older + 1) =
    ap length (sym published ∙ parts) ∙ (length-append n.before (all_held held) ∙ ap (λ (m : ℕ). b + m) (length-append held.older (held.last ∷ []))) in
    let few : b ≤ length us = omega (arith, counts, chain_long v us) in
    let place : b ≡ length messages - length start.newest.older.items = omega (arith, counts, chain_long v us, long, ap length is.older) in
    let rest : Behind v us b = behind b v us few in
    let all : all_held held ≡ rest.at ∷ chain rest.at (drop b us) =
    sym (drop-append_seam n.before (all_held held)) ∙ (ap (λ (vs : List Version). drop b vs) (sym parts ∙ published) ∙ rest.is) in
    let kept : newest_in start.newest ≡ all_held held =
    ap (λ (vs : List Version). vs ++ start.newest.last ∷ []) is.older ∙ ap (λ (l : Version). held.older ++ l ∷ []) is.last in
    let here : first ∷ later ≡ first_version rest.at.zone ∷ numbered_from 1 (chain rest.at (drop b us)) = versions ∙ ap rebased (kept ∙ all) in
    let one : first ≡ first_version rest.at.zone = first_same first (first_version rest.at.zone) later (numbered_from 1 (chain rest.at (drop b us))) here in
    let others : later ≡ numbered_from 1 (chain rest.at (drop b us)) = rest_same first (first_version rest.at.zone) later (numbered_from 1 (chain rest.at (drop b us))) here in
    subst (λ (m : ℕ). Newest zone us first later m) place (record {
      within = few;
      zone_is = ap (λ (f : Version). f.zone) one ∙ rest.zone;
      later_is = others ∙ (renumbered rest.at (first_version rest.at.zone) 1 (drop b us) refl refl ∙ ap (λ (f : Version). chain f (drop b us)) (sym one));
    })

-- of a store that goes on
has_gone_on : (text octets : List ℕ) (start : Recovery) (store : OpenStore) → GoesOn text octets start store → Has store
has_gone_on text octets start store on =
    let is : IsStarted text octets start = on.is in
    let batches : List (List Messages) = is.recovered.batches in
    let bodies : is.recovered.bodies ≡ map batch_of batches = is.recovered.are_batches.spelt in
    let us : List Update = is.replayed.updates in
    let b : ℕ = length is.messages - length start.newest.older.items in
    let newest : Newest is.zone us store.first store.later.items b = newest_is is.zone is.messages start is.replayed store.first store.later.items on.versions in
    let read : AreRead (updates_in batches) us = subst (λ (ms : List Messages). AreRead ms us) is.recovered.all is.replayed.read in
    let is_store : IsStore text start.head batches is.zone us = started_store text octets start is in
    let rest : messages_in store ≡ drop b (updates_in batches) = on.updates ∙ ap (λ (ms : List Messages). drop b ms) is.recovered.all in
    let taken : EachChanges store.first.zone (drop b us) = subst (λ (z : List Record). EachChanges z (drop b us)) (sym newest.zone_is) (changes_behind b is.zone us is.replayed.taken) in
    let made : AreMadeBy store.first (chain store.first (drop b us)) (drop b (updates_in batches)) =
    made_chain store.first (drop b us) (drop b (updates_in batches)) (read_behind b (updates_in batches) us read) taken in
    record {
      text = text;
      batches = batches;
      zone = is.zone;
      updates = us;
      k = b;
      is = subst (λ (h : Head). IsStore text h batches is.zone us) (sym on.head) is_store;
      log = subst (λ (bs : List (List ℕ)). Holds written synced store.head store.log bs) bodies on.log;
      within = newest.within;
      oldest = newest.zone_is;
      rest = rest;
      made = subst (λ (ms : List Messages). AreMadeBy store.first store.later.items ms) (sym rest)
          (subst (λ (vs : List Version). AreMadeBy store.first vs (drop b (updates_in batches))) (sym newest.later_is) made);
    }

pub has : (store : OpenStore) → IsGiven store → Has store
has store (inl on) = has_gone_on on.0 on.1 on.2 store on.3
has store (inr begun) = has_begun begun.0 begun.1 begun.2 begun.3 store begun.4

-- its updates fit a batch each, and are as many as its versions after the first one
abbrev IsFit : Messages → Type 0
IsFit messages = length (request_octets messages) < body_limit

requests_fit : (requests : List Messages) → length (batch_of requests) < body_limit → All IsFit requests
requests_fit [] short = All-nil IsFit
requests_fit (request ∷ requests) short =
    let long : length (batch_of (request ∷ requests)) ≡ length (request_octets request) + length (batch_of requests) = length-append (request_octets request) (batch_of requests) in
    All-cons IsFit request requests (omega (arith, short, long)) (requests_fit requests (omega (arith, short, long)))

all_fit : (batches : List (List Messages)) (number : ℕ) → Fit number (map batch_of batches) → All IsFit (updates_in batches)
all_fit [] number fit = All-nil IsFit
all_fit (batch ∷ batches) number fit = All-append IsFit batch (updates_in batches) (requests_fit batch fit.0) (all_fit batches (number + 1) fit.2)

pub has_fit : (store : OpenStore) → IsGiven store → All (λ messages. length (request_octets messages) < body_limit) (messages_in store)
has_fit store given =
    let h : Has store = has store given in
    subst (All IsFit) (sym h.rest) (All-drop IsFit h.k (updates_in h.batches) (all_fit h.batches 0 h.is.fit))

made_many : (first : Version) (versions : List Version) (messages : List Messages) → AreMadeBy first versions messages → length versions ≡ length messages
made_many first [] [] made = refl
made_many first [] (message ∷ messages) made = absurd made
made_many first (version ∷ versions) [] made = absurd made
made_many first (version ∷ versions) (message ∷ messages) made = ap suc (made_many version versions messages made.1)

pub has_many : (store : OpenStore) → IsGiven store → length store.later.items ≡ length store.updates.items
has_many store given = made_many store.first store.later.items (messages_in store) (has store given).made

-- the version behind steps that are let go
record Moved (zone : List Record) (messages : List Messages) (updates : List Update) (after : RecentState) (k : ℕ) : Type 0 where
  n : ℕ
  within : k + n ≤ length updates
  oldest : after.oldest.zone ≡ replay zone (take (k + n) updates)
  rest : updates_of after.steps ≡ drop (k + n) messages

moved : (zone : List Record) (messages : List Messages) (updates : List Update) (first : Version) (after : RecentState) (k : ℕ) (gone all : List VersionUpdate) → AreRead messages updates → k ≤ length updates
    → first.zone ≡ replay zone (take k updates) → updates_of all ≡ drop k messages → AreMadeBy first (versions_in all) (updates_of all) → all ≡ gone ++ after.steps
    → after.oldest ≡ newest_of first (versions_in gone) → Moved zone messages updates after k
moved zone messages updates first after k gone all read within oldest rest made parts newest =
    let n : ℕ = length gone in
    let split : updates_of all ≡ updates_of gone ++ updates_of after.steps = ap updates_of parts ∙ updates_of-append gone after.steps in
    let versions : versions_in all ≡ versions_in gone ++ versions_in after.steps = ap versions_in parts ∙ versions-append gone after.steps in
    let both : AreMadeBy first (versions_in gone ++ versions_in after.steps) (updates_of gone ++ updates_of after.steps) =
    subst (λ (us : List Messages). AreMadeBy first (versions_in gone ++ versions_in after.steps) us) split
    (subst (λ (vs : List Version). AreMadeBy first vs (updates_of all)) versions made) in
    let many : length (versions_in gone) ≡ length (updates_of gone) =
    length-map gone (λ (s : VersionUpdate). s.version) ∙ sym (length-map gone (λ (s : VersionUpdate). s.messages)) in
    let leads = made_leads first (versions_in gone) (updates_of gone)
    (made_first first (versions_in gone) (versions_in after.steps) (updates_of gone) (updates_of after.steps) many both) in
    let dropped : drop k messages ≡ updates_of gone ++ updates_of after.steps = sym rest ∙ split in
    let behind_them : AreRead (updates_of gone ++ updates_of after.steps) (drop k updates) =
    subst (λ (ms : List Messages). AreRead ms (drop k updates)) dropped (read_behind k messages updates read) in
    let is_n : length (updates_of gone) ≡ n = length-map gone (λ (s : VersionUpdate). s.messages) in
    let front : AreRead (updates_of gone) (take n (drop k updates)) =
    subst (λ (m : ℕ). AreRead (updates_of gone) (take m (drop k updates))) is_n (read_first (updates_of gone) (updates_of after.steps) (drop k updates) behind_them) in
    let same : leads.updates ≡ take n (drop k updates) = read_once (updates_of gone) leads.updates (take n (drop k updates)) leads.read front in
    let long : length (drop k updates) ≡ length (updates_of gone ++ updates_of after.steps) = read_long (updates_of gone ++ updates_of after.steps) (drop k updates) behind_them in
    record {
      n = n;
      within = omega (arith, within, long, is_n, length-drop k updates, length-append (updates_of gone) (updates_of after.steps));
      oldest = ap (λ (v : Version). v.zone) newest
          ∙ (leads.same ∙ (ap (λ (z : List Record). replay z leads.updates) oldest
          ∙ (ap (λ (us : List Update). replay (replay zone (take k updates)) us) same ∙ replay_parts zone updates k n)));
      rest = sym (drop-append_seam (updates_of gone) (updates_of after.steps))
          ∙ (ap (λ (m : ℕ). drop m (updates_of gone ++ updates_of after.steps)) is_n ∙ (ap (λ (ms : List Messages). drop n ms) (sym dropped) ∙ drop-drop n k messages));
    }

-- its writer, whose recent updates have followed its versions
pub writes_on : (store : OpenStore) (keep : ℕ) (steps : List VersionUpdate) (writer : StoreWriter FileDisk IoError) → IsGiven store → versions_in steps ≡ store.later.items → updates_of steps ≡ messages_in store
    → recent_of writer ≡ followed (record { oldest = store.first; steps = []; keep = keep }) steps → log_of writer ≡ store.log → head_of writer ≡ store.head
    → WritesOn store.first store.later.items writer
writes_on store keep steps writer given versions octets recent log head =
    let h : Has store = has store given in
    let alone : RecentState = record { oldest = store.first; steps = []; keep = keep } in
    let after : RecentState = followed alone steps in
    let made : AreMadeBy store.first (versions_in steps) (updates_of steps) =
    subst (λ (us : List Messages). AreMadeBy store.first (versions_in steps) us) (sym octets)
    (subst (λ (vs : List Version). AreMadeBy store.first vs (messages_in store)) (sym versions) h.made) in
    let follows = followed_is alone steps tt made in
    let split = followed_split alone steps in
    let move : Moved h.zone (updates_in h.batches) h.updates after h.k =
    moved h.zone (updates_in h.batches) h.updates store.first after h.k split.gone steps h.is.read h.within h.oldest (octets ∙ h.rest) made split.parts split.oldest in
    let end : IsEndOf h.text store.head h.batches h.zone h.updates after (h.k + move.n) =
    record { store = h.is; within = move.within; oldest = move.oldest; rest = move.rest; made = follows.0 } in
    record {
      text = h.text;
      batches = h.batches;
      zone = h.zone;
      updates = h.updates;
      k = h.k + move.n;
      is_present = record {
        end = subst (λ (t : RecentState). IsEndOf h.text (head_of writer) h.batches h.zone h.updates t (h.k + move.n)) (sym recent)
            (subst (λ (one : Head). IsEndOf h.text one h.batches h.zone h.updates after (h.k + move.n)) (sym head) end);
        log = inl (subst (λ (l : Log FileDisk IoError). Holds written synced (head_of writer) l (map batch_of h.batches)) (sym log)
            (subst (λ (one : Head). Holds written synced one store.log (map batch_of h.batches)) (sym head) h.log));
        origin = λ other is. absurd (none_some other is);
        next = λ compaction other way is number. absurd (none_some other is);
      };
      last = ap (λ (t : RecentState). newest_of t.oldest (versions_in t.steps)) recent ∙ (follows.1 ∙ ap (newest_of store.first) versions);
    }

-- recent updates with more steps added keep as many older versions as before
shortened_keep : (recent : RecentState) (steps : List VersionUpdate) → (shortened recent steps).keep ≡ recent.keep
shortened_keep recent [] = refl
shortened_keep recent (step ∷ steps) = refl

trimmed_keep : (recent : RecentState) → (trimmed recent).keep ≡ recent.keep
trimmed_keep recent = by_length (nat_lt recent.keep (length recent.steps))
  where
    by_length : (b : Bool) → (if b then shortened recent recent.steps else recent).keep ≡ recent.keep
    by_length true = shortened_keep recent recent.steps
    by_length false = refl

pub followed_keep : (recent : RecentState) (steps : List VersionUpdate) → (followed recent steps).keep ≡ recent.keep
followed_keep recent [] = refl
followed_keep recent (step ∷ steps) = followed_keep (pushed recent step) steps ∙ trimmed_keep (longer recent step)
