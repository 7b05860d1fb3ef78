-- What each call makes of a store that is compacted.
use Rattle.std.proofs.Common.{◌≡◌, ◌==◌, ◌⊎◌, ℕ, ◌<◌, ◌≤◌, Bool, true, false, List, [], ◌∷◌, ◌++◌, length, take, drop, map, Option, None, Some, inl, inr, refl, sym, ap, ◌∙◌, subst, append-nil, arith}
use Rattle.std.specs.Prelude.{Result, Ok, Err, OnOk, OnErr, IfOk, IfErr, IfSome, option_map}
use Rattle.std.proofs.lemmas.Bool.Decides.{nat_tests}
use Rattle.std.proofs.lemmas.List.{map-append, take-append-le, length-map}
use Rattle.dns_rdata.specs.Record.{Record}
use Rattle.dns_message.specs.declared.update.Update.{Update}
use Rattle.zone_tree.specs.Version.{Version}
use Rattle.update_core.specs.Act.{replay}
use Rattle.update_batches.specs.Batch.{newest_of, logged}
use Rattle.update_batches.specs.Journal.{AreMadeBy}
use Rattle.journal.specs.declared.heads.Head.{Head}
use Rattle.journal.specs.Batch.{Messages, batch_of}
use Rattle.journal.specs.Frame.{body_limit}
use Rattle.journal.specs.Recovered.{updates_in}
use Rattle.journal.specs.declared.log.Log.{Log}
use Rattle.journal.specs.Log.{Holds, IsStuck, is_stuck}
use Rattle.store_files.specs.declared.file.FileDisk.{FileDisk}
use Rattle.store_files.specs.File.{written, synced}
use Rattle.store_recovery.proofs.ReadLemmas.{read_long}
use Rattle.store_compaction.specs.declared.marked.Compaction.{Compaction}
use Rattle.store_compaction.specs.declared.next.NextText.{NextText}
use Rattle.update_batches.specs.declared.version_update.VersionUpdate.{VersionUpdate}
use Rattle.store_compaction.specs.declared.writer.StoreWriter.{StoreWriter}
use Rattle.store_compaction.specs.End.{IsEndOf}
use Rattle.store_compaction.specs.RecentUpdates.{RecentState, AreRecent, last_in, followed}
use Rattle.update_batches.specs.Batch.{versions_in, updates_of}
use Rattle.store_compaction.specs.Marked.{number_of, IsMarked}
use Rattle.store_compaction.specs.Writer.{log_of, recent_of, head_of, under_way_of, AreSteps, Adds, Begins}
use Rattle.store_compaction.proofs.RecentLemmas.{followed_is}
use Rattle.store_compaction.proofs.EndLemmas.{end_more}
use Rattle.store_compaction.proofs.MarkedLemmas.{one_more}
use Rattle.store_files.specs.declared.pair.PairFault.{PairFault}
use Rattle.store_files.specs.declared.pair.PairFault.TheVariants.{Before, Unknown}
use Rattle.store_compaction.specs.Files.{GoesOn, Stops}
use Rattle.store_compaction.specs.TextWriter.{Wanted, wanted_of, IsWritten}
use Rattle.store_compaction.specs.Stands.{IsNext, Stands, StandsFrom}
use Rattle.store_compaction.specs.Kept.{CompactedState, IsAt, IsTended, IsKept, HasMore, IsStored}
use Rattle.store_compaction.proofs.StandsLemmas.{fit_last, some_is, none_some, IsOnDisk, from_here, stands_alone, stands_stopped, stands_still, stands_begun, stands_replaced}

-- a compaction that follows has been under way
follows : (before after : Option Compaction) (now : Compaction) (octets : List Messages) → after ≡ Some now → Adds before after octets
    → (was : Compaction) × (before ≡ Some was) × (number_of now ≡ number_of was)
follows before None now octets is adds = absurd (none_some now is)
follows None (Some other) now octets is adds = absurd adds
follows (Some was) (Some other) now octets is adds = (was, refl, ap (λ (c : Compaction). number_of c) (sym (some_is other now is)) ∙ adds.0)

-- the updates of steps make their versions
pub steps_made : (first : Version) (versions : List Version) (octets : List Messages) (steps : List VersionUpdate) → AreSteps steps versions octets → AreMadeBy first versions octets
    → AreMadeBy first (versions_in steps) (updates_of steps)
steps_made first versions octets steps are made =
    subst (λ (us : List Messages). AreMadeBy first (versions_in steps) us) (sym are.updates_are)
    (subst (λ (vs : List Version). AreMadeBy first vs octets) (sym are.versions_are) made)

-- what steps make follows
pub last_follows : (old new : RecentState) (versions : List Version) (octets : List Messages) (steps : List VersionUpdate) → AreRecent old → AreSteps steps versions octets
    → new ≡ followed old steps → AreMadeBy (last_in old) versions octets → AreRecent new × (last_in new ≡ newest_of (last_in old) versions)
last_follows old new versions octets steps recent are is made =
    let found = followed_is old steps recent (steps_made (last_in old) versions octets steps are made) in
    (subst AreRecent (sym is) found.0, ap last_in is ∙ (found.1 ∙ ap (newest_of (last_in old)) are.versions_are))

module _ {F : Type 0} where
  -- nothing is stored
  pub more_none : (text : List ℕ) (batches : List (List Messages)) (zone : List Record) (updates : List Update) (k : ℕ) (octets : List Messages) (after : CompactedState F)
      → length octets ≡ 0 → IsAt text batches zone updates k after → HasMore text batches zone updates octets after
  more_none text batches zone updates k [] after none at = record {
    all = batches;
    more = [];
    k = k;
    is_present = subst (λ (us : List Update). IsAt text batches zone us k after) (sym (append-nil updates)) at;
    all_are = sym (append-nil (updates_in batches));
    on_disk = inl refl;
  }
  more_none text batches zone updates k (one ∷ octets) after none at = absurd (omega (arith, none))

  -- one batch more is stored
  pub more_some : (text : List ℕ) (batches : List (List Messages)) (zone : List Record) (updates : List Update) (k : ℕ) (one : Messages) (others : List Messages)
      (before after : CompactedState F) (versions : List Version) (steps : List VersionUpdate)
      → IsAt text batches zone updates k before → Holds written synced (head_of before.writer) (log_of before.writer) (map batch_of batches)
      → AreSteps steps versions (one ∷ others) → AreMadeBy (last_in (recent_of before.writer)) versions (one ∷ others)
      → recent_of after.writer ≡ followed (recent_of before.writer) steps → head_of after.writer ≡ head_of before.writer → after.wanted ≡ before.wanted
      → Adds (under_way_of before.writer) (under_way_of after.writer) (one ∷ others)
      → ((m : ℕ) (all : List (List Messages)) (was now : Compaction) → under_way_of before.writer ≡ Some was → under_way_of after.writer ≡ Some now → IsMarked m all was
      → m ≤ length (updates_in all) → IsMarked m (all ++ (one ∷ others) ∷ []) now)
      → ((head : Head) (bodies : List (List ℕ)) → Holds written synced head (log_of before.writer) bodies → Holds written synced head (log_of after.writer) (logged bodies (one ∷ others)))
      → HasMore text batches zone updates (one ∷ others) after
  more_some text batches zone updates k one others before after versions steps at holds are made recent head wanted adds marks stored =
      let octets : List Messages = one ∷ others in
      let old : StoreWriter FileDisk F = before.writer in
      let new : StoreWriter FileDisk F = after.writer in
      let all : List (List Messages) = batches ++ octets ∷ [] in
      let bodies : map batch_of all ≡ map batch_of batches ++ batch_of octets ∷ [] = map-append batch_of batches (octets ∷ []) in
      let there : Holds written synced (head_of old) (log_of new) (map batch_of batches ++ batch_of octets ∷ []) = stored (head_of old) (map batch_of batches) holds in
      let few = fit_last 0 (map batch_of batches) (batch_of octets) there.fit in
      let here : Holds written synced (head_of new) (log_of new) (map batch_of all) =
      subst (λ (h : Head). Holds written synced h (log_of new) (map batch_of all)) (sym head)
      (subst (λ (bs : List (List ℕ)). Holds written synced (head_of old) (log_of new) bs) (sym bodies) there) in
      let found = end_more text (head_of old) batches zone updates (recent_of old) k steps at.end (steps_made (last_in (recent_of old)) versions octets steps are made)
      (subst (λ (us : List Messages). length (batch_of us) < body_limit) (sym are.updates_are) few.0) (omega (arith, few.1, length-map batches batch_of)) in
      let more : List Update = found.0 in
      let m : ℕ = found.1 in
      let end : IsEndOf text (head_of new) all zone (updates ++ more) (recent_of new) m =
      subst (λ (h : Head). IsEndOf text h all zone (updates ++ more) (recent_of new) m) (sym head)
      (subst (λ (t : RecentState). IsEndOf text (head_of old) all zone (updates ++ more) t m) (sym recent)
      (subst (λ (us : List Messages). IsEndOf text (head_of old) (batches ++ us ∷ []) zone (updates ++ more) (followed (recent_of old) steps) m) are.updates_are found.3)) in
      let long : length updates ≡ length (updates_in batches) = read_long (updates_in batches) updates at.end.store.read in
      record {
        all = all;
        more = more;
        k = m;
        is_present = record {
          end = end;
          log = inl here;
          origin = λ other is. at.origin other (sym wanted ∙ is) ∙ ap (λ (h : Head). h.origin) (sym head);
          next = λ compaction other way is number.
              let was = follows (under_way_of old) (under_way_of new) compaction octets way adds in
              let next : IsNext batches zone updates k was.0 other = at.next was.0 other was.1 (sym wanted ∙ is) (sym was.2 ∙ number) in
              record {
                first = next.first;
                older = omega (arith, next.older, found.2);
                version = next.version ∙ ap (λ (us : List Update). replay zone us) (sym (take-append-le next.first updates more (omega (arith, next.older, at.end.within))));
                marked = marks next.first batches was.0 compaction was.1 way next.marked (omega (arith, next.older, at.end.within, long));
              };
        };
        all_are = one_more batches octets;
        on_disk = inr here;
      }

  -- a store that is tended, and then kept
  pub tended_kept : (before middle after : CompactedState F) → IsTended before middle → IsKept middle after → IsTended before after
  tended_kept before middle after tended kept = record {
    recent = kept.recent ∙ tended.recent;
    is_present = λ text batches zone updates k at.
        let from = (tended.is_present text batches zone updates k at).0 in (
          record {
            n = from.n;
            within = from.within;
            text = from.text;
            batches = from.batches;
            k = from.k;
            is_present = kept.is_present from.text from.batches (replay zone (take from.n updates)) (drop from.n updates) from.k from.is_present;
          },
          kept.origin ∙ (tended.is_present text batches zone updates k at).1,
        );
  }

  -- one that stays as it was
  pub tended_same : (state : CompactedState F) → IsTended state state
  tended_same state = record {
    recent = refl;
    is_present = λ text batches zone updates k at. (from_here written synced text batches zone updates k state.writer state.wanted at, refl);
  }

  pub kept_same : (state : CompactedState F) → IsKept state state
  kept_same state = record { recent = refl; origin = refl; is_present = λ text batches zone updates k at. at }

  -- a log that is on the disk and isn't stuck holds its batches
  pub goes_on : (head : Head) (log : Log FileDisk F) (bodies : List (List ℕ)) → IsOnDisk written synced head log bodies → is_stuck log ≡ false → Holds written synced head log bodies
  goes_on head log bodies (inl holds) on = holds
  goes_on head log bodies (inr stuck) on = absurd (let wrong : true ≡ false = sym stuck.stuck ∙ on in cc)

  -- a writer that is as it was, where the text is wanted no more
  unplaced : (old new : StoreWriter FileDisk F) (wanted : Wanted) → new ≡ old
      → (text : List ℕ) (batches : List (List Messages)) (zone : List Record) (updates : List Update) (k : ℕ)
      → Stands written synced text batches zone updates k old (Some wanted)
      → StandsFrom written synced zone updates new None × ((head_of new).origin ≡ (head_of old).origin)
  unplaced old new wanted same text batches zone updates k is_present = (
    subst (λ (w : StoreWriter FileDisk F). StandsFrom written synced zone updates w None) (sym same)
        (from_here written synced text batches zone updates k old None (stands_alone written synced text batches zone updates k old (Some wanted) is_present)),
    ap (λ (w : StoreWriter FileDisk F). (head_of w).origin) same,
  )

  -- a journal that replaces another, and one that doesn't
  pub placed_stands : (result : Result Bool PairFault) (old new : StoreWriter FileDisk F) (head : Head) (wanted : Wanted)
      → IfOk result (λ done. GoesOn head old new done) → IfErr result (λ fault. Stops fault old new) → recent_of new ≡ recent_of old → IsWritten wanted head
      → (text : List ℕ) (batches : List (List Messages)) (zone : List Record) (updates : List Update) (k : ℕ)
      → Stands written synced text batches zone updates k old (Some wanted)
      → StandsFrom written synced zone updates new None × ((head_of new).origin ≡ (head_of old).origin)
  placed_stands (Ok true) old new head wanted goes stops recent is text batches zone updates k is_present =
      stands_replaced written synced text is.1.0 batches zone updates k old new wanted head is.0 goes.0 is_present is.1.1 goes.1 goes.2 goes.3 goes.4 recent
  placed_stands (Ok false) old new head wanted goes stops recent is text batches zone updates k is_present =
      unplaced old new wanted goes.1 text batches zone updates k is_present
  placed_stands (Err (Before fault)) old new head wanted goes stops recent is text batches zone updates k is_present =
      unplaced old new wanted stops text batches zone updates k is_present
  placed_stands (Err (Unknown fault)) old new head wanted goes stops recent is text batches zone updates k is_present = (
    from_here written synced text batches zone updates k new None
        (stands_stopped written synced text batches zone updates k old new (Some wanted) is_present recent stops.2 (λ h bodies on_disk. inr (stops.1 h bodies on_disk))),
    ap (λ (h : Head). h.origin) stops.2,
  )

  -- no text is wanted any more, or the same one, of a writer that is as it was
  pub taken_stands : (writer : StoreWriter FileDisk F) (old new : Option Wanted) → (new ≡ old) ⊎ (new ≡ None)
      → (text : List ℕ) (batches : List (List Messages)) (zone : List Record) (updates : List Update) (k : ℕ)
      → Stands written synced text batches zone updates k writer old
      → StandsFrom written synced zone updates writer new × ((head_of writer).origin ≡ (head_of writer).origin)
  taken_stands writer old new (inl same) text batches zone updates k is_present = (
    subst (λ (w : Option Wanted). StandsFrom written synced zone updates writer w) (sym same) (from_here written synced text batches zone updates k writer old is_present),
    refl,
  )
  taken_stands writer old new (inr none) text batches zone updates k is_present = (
    subst (λ (w : Option Wanted). StandsFrom written synced zone updates writer w) (sym none)
        (from_here written synced text batches zone updates k writer None (stands_alone written synced text batches zone updates k writer old is_present)),
    refl,
  )

  -- the journal of a text that was wanted is in place, or isn't
  pub taken_placed : (before after : StoreWriter FileDisk F) (old new : Option Wanted) (head : Head) → new ≡ None
      → ((wanted : Wanted) × (old ≡ Some wanted) × IsWritten wanted head)
      → ((wanted : Wanted) → IsWritten wanted head → (text : List ℕ) (batches : List (List Messages)) (zone : List Record) (updates : List Update) (k : ℕ)
      → Stands written synced text batches zone updates k before (Some wanted)
      → StandsFrom written synced zone updates after None × ((head_of after).origin ≡ (head_of before).origin))
      → (text : List ℕ) (batches : List (List Messages)) (zone : List Record) (updates : List Update) (k : ℕ)
      → Stands written synced text batches zone updates k before old
      → StandsFrom written synced zone updates after new × ((head_of after).origin ≡ (head_of before).origin)
  taken_placed before after old new head none is placed text batches zone updates k is_present =
      let found = placed is.0 is.2 text batches zone updates k (subst (λ (w : Option Wanted). Stands written synced text batches zone updates k before w) is.1 is_present) in
      (subst (λ (w : Option Wanted). StandsFrom written synced zone updates after w) (sym none) found.0, found.1)

  -- a compaction that is begun, or isn't
  pub begun_stands : (before after : StoreWriter FileDisk F) (old new : Option Wanted) (next : NextText) (last : ℕ)
      → (new ≡ Some (wanted_of next (head_of after))) ⊎ (new ≡ None)
      → recent_of after ≡ recent_of before → head_of after ≡ head_of before → log_of after ≡ log_of before → Begins (recent_of before) last next (under_way_of after)
      → (text : List ℕ) (batches : List (List Messages)) (zone : List Record) (updates : List Update) (k : ℕ)
      → (IsEndOf text (head_of before) batches zone updates (recent_of before) k → IfSome (under_way_of after) (IsMarked k batches))
      → Stands written synced text batches zone updates k before old → Stands written synced text batches zone updates k after new
  begun_stands before after old new next last which recent head log begins text batches zone updates k marked is_present =
      let here : Stands written synced text batches zone updates k after (Some (wanted_of next (head_of after))) =
      stands_begun written synced text batches zone updates k last before after old next is_present recent head log begins (marked is_present.end) in
      elim which [
        | inl same ↦ subst (λ (w : Option Wanted). Stands written synced text batches zone updates k after w) (sym same) here
        | inr none ↦ subst (λ (w : Option Wanted). Stands written synced text batches zone updates k after w) (sym none)
            (stands_alone written synced text batches zone updates k after (Some (wanted_of next (head_of after))) here)
      ]

  -- a store is tended by what becomes of its parts
  pub tended_parts : (before : CompactedState F) (old new : StoreWriter FileDisk F) (was now : Option Wanted) → record { writer = old; wanted = was } ≡ before
      → recent_of new ≡ recent_of old
      → ((text : List ℕ) (batches : List (List Messages)) (zone : List Record) (updates : List Update) (k : ℕ) → Stands written synced text batches zone updates k old was
      → StandsFrom written synced zone updates new now × ((head_of new).origin ≡ (head_of old).origin))
      → IsTended before (record { writer = new; wanted = now })
  tended_parts before old new was now is recent is_present =
      subst (λ (s : CompactedState F). IsTended s (record { writer = new; wanted = now })) is (record { recent = recent; is_present = is_present })

  -- where there is no update nothing is stored
  pub stored_none : (state : CompactedState F) (versions : List Version) (octets : List Messages) → length octets ≡ 0 → IsStored state state versions octets
  stored_none state [] [] none = record {
    origin = refl;
    last = λ recent short made. (recent, refl);
    is_present = λ short made text batches zone updates k at. more_none text batches zone updates k [] state refl at;
  }
  stored_none state (version ∷ versions) [] none = record {
    origin = refl;
    last = λ recent short made. absurd made;
    is_present = λ short made. absurd made;
  }
  stored_none state versions (one ∷ octets) none = absurd (omega (arith, none))

  -- what is on the disk stays, of a log that isn't stuck
  still_there : (old new : Log FileDisk F) → is_stuck old ≡ false
      → ((head : Head) (bodies : List (List ℕ)) → Holds written synced head old bodies → Holds written synced head new bodies ⊎ IsStuck synced head new bodies)
      → (head : Head) (bodies : List (List ℕ)) → IsOnDisk written synced head old bodies → IsOnDisk written synced head new bodies
  still_there old new on kept head bodies disk = kept head bodies (goes_on head old bodies disk on)

  -- a batch that is appended
  stored_some : (updates : List VersionUpdate) (old new : StoreWriter FileDisk F) (wanted : Option Wanted) → is_stuck (log_of old) ≡ false → 0 < length updates
      → ((head : Head) (bodies : List (List ℕ)) → Holds written synced head (log_of old) bodies → Holds written synced head (log_of new) (logged bodies (updates_of updates)))
      → (steps : List VersionUpdate) × AreSteps steps (versions_in updates) (updates_of updates) × (recent_of new ≡ followed (recent_of old) steps)
      → Adds (under_way_of old) (under_way_of new) (updates_of updates)
      → (0 < length updates → (k : ℕ) (batches : List (List Messages)) (was now : Compaction)
      → under_way_of old ≡ Some was → under_way_of new ≡ Some now → IsMarked k batches was → k ≤ length (updates_in batches) → IsMarked k (batches ++ updates_of updates ∷ []) now)
      → head_of new ≡ head_of old
      → IsStored (record { writer = old; wanted = wanted }) (record { writer = new; wanted = wanted }) (versions_in updates) (updates_of updates)
  stored_some [] old new wanted on some stored found way marks head = absurd (omega (arith, some))
  stored_some (one ∷ others) old new wanted on some stored found way marks head = record {
    origin = ap (λ (h : Head). h.origin) head;
    last = λ is short made. last_follows (recent_of old) (recent_of new) (versions_in (one ∷ others)) (updates_of (one ∷ others)) found.0 is found.1 found.2 made;
    is_present = λ short made text batches zone updates k at.
        more_some text batches zone updates k one.messages (updates_of others) (record { writer = old; wanted = wanted }) (record { writer = new; wanted = wanted })
        (versions_in (one ∷ others)) found.0 at (goes_on (head_of old) (log_of old) (map batch_of batches) at.log on) found.1 made found.2 head refl way
        (λ m all was now. marks (omega arith) m all was now) stored;
  }

  -- of a store whose writer has appended a batch
  pub appended : (updates : List VersionUpdate) (before : CompactedState F) (old new : StoreWriter FileDisk F) (wanted : Option Wanted)
      → record { writer = old; wanted = wanted } ≡ before → is_stuck (log_of old) ≡ false → 0 < length updates
      → ((head : Head) (bodies : List (List ℕ)) → Holds written synced head (log_of old) bodies → Holds written synced head (log_of new) (logged bodies (updates_of updates)))
      → (steps : List VersionUpdate) × AreSteps steps (versions_in updates) (updates_of updates) × (recent_of new ≡ followed (recent_of old) steps)
      → Adds (under_way_of old) (under_way_of new) (updates_of updates)
      → (0 < length updates → (k : ℕ) (batches : List (List Messages)) (was now : Compaction)
      → under_way_of old ≡ Some was → under_way_of new ≡ Some now → IsMarked k batches was → k ≤ length (updates_in batches) → IsMarked k (batches ++ updates_of updates ∷ []) now)
      → head_of new ≡ head_of old
      → IsStored before (record { writer = new; wanted = wanted }) (versions_in updates) (updates_of updates)
  appended updates before old new wanted is on some stored found way marks head =
      subst (λ (s : CompactedState F). IsStored s (record { writer = new; wanted = wanted }) (versions_in updates) (updates_of updates)) is
      (stored_some updates old new wanted on some stored found way marks head)

  -- and of one whose writer has not
  pub not_appended : (before : CompactedState F) (old new : StoreWriter FileDisk F) (wanted : Option Wanted)
      → record { writer = old; wanted = wanted } ≡ before → is_stuck (log_of old) ≡ false
      → ((head : Head) (bodies : List (List ℕ)) → Holds written synced head (log_of old) bodies → Holds written synced head (log_of new) bodies ⊎ IsStuck synced head (log_of new) bodies)
      → recent_of new ≡ recent_of old → under_way_of new ≡ under_way_of old → head_of new ≡ head_of old
      → IsKept before (record { writer = new; wanted = wanted })
  not_appended before old new wanted is on kept recent way head =
      subst (λ (s : CompactedState F). IsKept s (record { writer = new; wanted = wanted })) is (record {
        recent = recent;
        origin = ap (λ (h : Head). h.origin) head;
        is_present = λ text batches zone updates k at.
            stands_still written synced text batches zone updates k old new wanted at recent head way (still_there (log_of old) (log_of new) on kept);
      })

-- what follows from what a result says, where it is Ok, and where it is not
pub on_ok : {X E A B C D Z : Type 0} (result : Result X E) → OnOk result A → OnOk result B → OnOk result C → OnOk result D → (A → B → C → D → Z) → OnOk result Z
on_ok (Ok value) a b c d follows = follows a b c d
on_ok (Err fault) a b c d follows = tt

pub on_err : {X E A B C Z : Type 0} (result : Result X E) → OnErr result A → OnErr result B → OnErr result C → (A → B → C → Z) → OnErr result Z
on_err (Ok value) a b c follows = tt
on_err (Err fault) a b c follows = follows a b c

-- what is told of a text, and what was wanted
pub taken_told : {X E : Type 0} (f : X → Wanted) (old new : Option X) (writing : X) (result : Result Head E) → old ≡ Some writing → new ≡ None → IfOk result (IsWritten (f writing))
    → (option_map f new ≡ None) × IfOk result (λ head. (text : Wanted) × (option_map f old ≡ Some text) × IsWritten text head)
taken_told f old new writing (Ok head) is none reported = (ap (option_map f) none, (f writing, ap (option_map f) is, reported))
taken_told f old new writing (Err fault) is none reported = (ap (option_map f) none, tt)

-- whether nothing is there
pub none_there : {X : Type 0} (list same : List X) → same ≡ list → true ≡ (length same == 0) → length list ≡ 0
none_there {X} list same is empty = subst (λ (l : List X). length l ≡ 0) is (grind (arith, nat_tests))

pub some_there : {X : Type 0} (list same : List X) → same ≡ list → false ≡ (length same == 0) → 0 < length list
some_there {X} list same is empty = subst (λ (l : List X). 0 < length l) is (grind (arith, nat_tests))
