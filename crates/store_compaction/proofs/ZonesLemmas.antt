-- The zones that updates leave, one after another, and which of them a start and recent updates have.
use Rattle.std.proofs.Common.{◌≡◌, ℕ, zero, suc, ◌+◌, ◌-◌, ◌≤◌, List, [], ◌∷◌, ◌++◌, length, take, drop, min, Result, Ok, unwrap_or, refl, sym, ap, ◌∙◌, subst, append_assoc, length-append, arith}
use Rattle.std.proofs.lemmas.List.{map-append, length-map, length-drop, drop-drop}
use Rattle.std.proofs.Math.Seq.{drop-append_seam}
use Rattle.dns_rdata.specs.Record.{Record}
use Rattle.dns_message.specs.declared.update.Update.{Update}
use Rattle.zone_tree.specs.Version.{Version}
use Rattle.master_file.specs.declared.fault.FileFault.{FileFault}
use Rattle.master_file.specs.ZoneText.{zone_of_text}
use Rattle.update_core.specs.Act.{act, replay}
use Rattle.transfer_core.specs.Chain.{zones_of}
use Rattle.dns_engine.specs.Held.{Held, KEPT, newest, held_with, all_held, IsNewest}
use Rattle.dns_engine.specs.Versions.{Makes}
use Rattle.update_batches.specs.Journal.{AreMadeBy}
use Rattle.journal.specs.Batch.{Messages}
use Rattle.journal.specs.declared.heads.Head.{Head}
use Rattle.journal.specs.Recovered.{journal_of, updates_in}
use Rattle.journal.proofs.RecoveredLemmas.{written_recovered}
use Rattle.store_recovery.specs.declared.recent_versions.RecentVersions.{RecentVersions}
use Rattle.store_recovery.specs.declared.start.Recovery.{Recovery}
use Rattle.store_recovery.specs.Replay.{AreRead, IsReplayed, begun, held_from, version_by}
use Rattle.store_recovery.specs.Start.{IsStarted}
use Rattle.store_recovery.specs.Store.{IsStore}
use Rattle.store_recovery.proofs.HeldLemmas.{begun_newest, held_newest, held_keep}
use Rattle.store_recovery.proofs.ReadLemmas.{read_one, read_once, read_long}
use Rattle.store_recovery.proofs.ReplayLemmas.{replayed_number}
use Rattle.update_batches.specs.declared.version_update.VersionUpdate.{VersionUpdate}
use Rattle.store_compaction.specs.RecentUpdates.{RecentState}
use Rattle.update_batches.specs.Batch.{versions_in, updates_of}
use Rattle.store_compaction.specs.End.{IsEndOf}
use Rattle.store_compaction.proofs.MadeLemmas.{read_behind}

-- the zones that updates leave of a zone, one after another, that zone first
abbrev pub zones_from : List Record → List Update → List (List Record)
zones_from zone [] = zone ∷ []
zones_from zone (update ∷ updates) = zone ∷ zones_from (unwrap_or (act zone update) zone) updates

zones_long : (zone : List Record) (updates : List Update) → length (zones_from zone updates) ≡ length updates + 1
zones_long zone [] = refl
zones_long zone (update ∷ updates) = omega (arith, zones_long (unwrap_or (act zone update) zone) updates)

-- those behind the first updates
zones_behind : (k : ℕ) (zone : List Record) (updates : List Update) → k ≤ length updates
    → zones_from (replay zone (take k updates)) (drop k updates) ≡ drop k (zones_from zone updates)
zones_behind zero zone updates few = refl
zones_behind (suc k) zone [] few = absurd (omega (arith, few))
zones_behind (suc k) zone (update ∷ updates) few = zones_behind k (unwrap_or (act zone update) zone) updates (omega (arith, few))

-- versions that are made one from the other have them
made_zones : (first : Version) (versions : List Version) (messages : List Messages) (updates : List Update) → AreMadeBy first versions messages → AreRead messages updates
    → zones_of (first ∷ versions) ≡ zones_from first.zone updates
made_zones first [] [] [] made read = refl
made_zones first [] [] (update ∷ updates) made read = absurd read
made_zones first [] (message ∷ messages) updates made read = absurd made
made_zones first (version ∷ versions) [] updates made read = absurd made
made_zones first (version ∷ versions) (message ∷ messages) [] made read = absurd read
made_zones first (version ∷ versions) (message ∷ messages) (update ∷ updates) made read =
    let other : Update = made.0.0 in
    let makes : Makes other first version = made.0.2 in
    let same : other ≡ update = read_one message other update made.0.1 read.0 in
    let gives : version.zone ≡ unwrap_or (act first.zone update) first.zone =
    sym (ap (λ o. unwrap_or o first.zone) makes.zone) ∙ ap (λ (u : Update). unwrap_or (act first.zone u) first.zone) same in
    ap (λ (zones : List (List Record)). first.zone ∷ zones)
    (made_zones version versions messages updates made.1 read.1 ∙ ap (λ (z : List Record). zones_from z updates) gives)

-- and so have those that an engine publishes
held_zones : (held : Held) (updates : List Update) (before : List (List Record)) → zones_of held.published ≡ before ++ held.last.zone ∷ []
    → zones_of (held_from held updates).published ≡ before ++ zones_from held.last.zone updates
held_zones held [] before ends = ends
held_zones held (update ∷ updates) before ends =
    let next : Version = version_by held.last update in
    let longer : zones_of (held.published ++ next ∷ []) ≡ (before ++ held.last.zone ∷ []) ++ next.zone ∷ [] =
    map-append (λ (v : Version). v.zone) held.published (next ∷ []) ∙ ap (λ (zones : List (List Record)). zones ++ next.zone ∷ []) ends in
    held_zones (held_with held next) updates (before ++ held.last.zone ∷ []) longer ∙ append_assoc before (held.last.zone ∷ []) (zones_from next.zone updates)

-- a replay has the last of them, as many as are kept and one
replayed_zones : (zone : List Record) (messages : List Messages) (kept : RecentVersions) (is : IsReplayed zone messages kept)
    → zones_of (kept.older.items ++ kept.last ∷ []) ≡ drop (length is.updates - min KEPT (length is.updates)) (zones_from zone is.updates)
replayed_zones zone messages kept is =
    let held : Held = held_from (begun zone) is.updates in
    let n : IsNewest zone held = held_newest zone (begun zone) is.updates (begun_newest zone) is.taken in
    let keep : held.keep ≡ KEPT = held_keep (begun zone) is.updates in
    let many : held.last.number ≡ length is.updates =
    ap (λ (v : Version). v.number) (sym is.last) ∙ (replayed_number zone messages kept is ∙ sym (read_long messages is.updates is.read)) in
    let all : kept.older.items ++ kept.last ∷ [] ≡ all_held held =
    ap (λ (vs : List Version). vs ++ kept.last ∷ []) is.older ∙ ap (λ (v : Version). held.older ++ v ∷ []) is.last in
    let parts : held.published ≡ n.before ++ all_held held = n.ends ∙ append_assoc n.before held.older (held.last ∷ []) in
    let whole : zones_from zone is.updates ≡ zones_of n.before ++ zones_of (all_held held) =
    sym (held_zones (begun zone) is.updates [] refl) ∙ (ap zones_of parts ∙ map-append (λ (v : Version). v.zone) n.before (all_held held)) in
    let front : length (zones_of n.before) ≡ length is.updates - min KEPT (length is.updates) =
    omega (arith, length-map n.before (λ (v : Version). v.zone), length-append n.before held.older, n.number, n.most, keep, many) in
    ap zones_of all
    ∙ (sym (drop-append_seam (zones_of n.before) (zones_of (all_held held)))
    ∙ (ap (λ (zones : List (List Record)). drop (length (zones_of n.before)) zones) (sym whole) ∙ ap (λ (m : ℕ). drop m (zones_from zone is.updates)) front))

-- the last of the last of a list
last_of_last : {T : Type 0} (values kept : List T) (b k m : ℕ) → kept ≡ drop b values → b ≤ k → length values ≡ k + m → newest m kept ≡ drop k values
last_of_last values kept b k m is few long =
    let counts : length kept ≡ length values - b = ap length is ∙ length-drop b values in
    let place : b + (length kept - m) ≡ k = omega (arith, counts, few, long) in
    ap (λ (vs : List _). drop (length kept - m) vs) is ∙ (drop-drop (length kept - m) b values ∙ ap (λ (p : ℕ). drop p values) place)

-- a text is one zone
one_zone : (read : Result (List Record) FileFault) (zone other : List Record) → read ≡ Ok zone → read ≡ Ok other → zone ≡ other
one_zone read zone other one two = cc

-- a start of a store has the zones of the recent updates that are its end
pub recent_started : (text : List ℕ) (head : Head) (batches : List (List Messages)) (zone : List Record) (updates : List Update) (recent : RecentState) (k : ℕ) (start : Recovery)
    → IsEndOf text head batches zone updates recent k → length recent.steps ≤ KEPT → IsStarted text (journal_of head batches) start
    → newest (length recent.steps + 1) (zones_of (start.newest.older.items ++ start.newest.last ∷ [])) ≡ zones_of (recent.oldest ∷ versions_in recent.steps)
recent_started text head batches zone updates recent k start end few is =
    let store : IsStore text head batches zone updates = end.store in
    let messages : List Messages = updates_in batches in
    let found = written_recovered text head start.head batches is.messages start.number start.end is.torn store.is_head store.fit store.short is.recovered in
    let zones : is.zone ≡ zone = one_zone (zone_of_text [] text) is.zone zone is.is_zone store.is_zone in
    let reported : List Update = is.replayed.updates in
    let others : reported ≡ updates = read_once messages reported updates (subst (λ (ms : List Messages). AreRead ms reported) found.1 is.replayed.read) store.read in
    let all : List (List Record) = zones_from zone updates in
    let b : ℕ = length updates - min KEPT (length updates) in
    let kept : zones_of (start.newest.older.items ++ start.newest.last ∷ []) ≡ drop b all =
    replayed_zones is.zone is.messages start.newest is.replayed
    ∙ (ap (λ (us : List Update). drop (length us - min KEPT (length us)) (zones_from is.zone us)) others ∙ ap (λ (z : List Record). drop b (zones_from z updates)) zones) in
    let long : length updates ≡ length messages = read_long messages updates store.read in
    let steps : length recent.steps ≡ length messages - k =
    sym (length-map recent.steps (λ (s : VersionUpdate). s.messages)) ∙ (ap length end.rest ∙ length-drop k messages) in
    let read : AreRead (updates_of recent.steps) (drop k updates) =
    subst (λ (ms : List Messages). AreRead ms (drop k updates)) (sym end.rest) (read_behind k messages updates store.read) in
    let has : zones_of (recent.oldest ∷ versions_in recent.steps) ≡ drop k all =
    made_zones recent.oldest (versions_in recent.steps) (updates_of recent.steps) (drop k updates) end.made read
    ∙ (ap (λ (z : List Record). zones_from z (drop k updates)) end.oldest ∙ zones_behind k zone updates end.within) in
    last_of_last all (zones_of (start.newest.older.items ++ start.newest.last ∷ [])) b k (length recent.steps + 1) kept (omega (arith, few, steps, long, end.within))
    (omega (arith, zones_long zone updates, steps, long, end.within)) ∙ sym has
