-- Versions as a cell begins with them.
use Rattle.journal.specs.Batch.{Messages}
use Rattle.std.proofs.Common.{◌≡◌, ◌≢◌, ℕ, zero, suc, ◌+◌, ◌-◌, ◌<◌, ◌≤◌, true, List, [], ◌∷◌, ◌++◌, length, take, drop, set, get_or, map, remove, Option, None, Some, refl, sym, ap, ◌∙◌, subst, append_assoc, append-nil, length-append, arith}
use Rattle.std.proofs.lemmas.List.{take_all, drop_all, drop-drop, drop-map, length-map, length_push}
use Rattle.std.proofs.Math.Seq.{take-append_seam, drop-append_seam}
use Rattle.dns_rdata.specs.Record.{Record}
use Rattle.zone_tree.specs.Version.{Version, Changes, KnowsChanges}
use Rattle.update_core.specs.Verdict.{verdict}
use Rattle.update_core.specs.Act.{act}
use Rattle.transfer_core.specs.Chain.{zones_of}
use Rattle.dns_engine.specs.Versions.{IsFirst, IsNext, AreNext}
use Rattle.dns_engine.specs.Held.{Held, KEPT, newest, IsNewest, all_held, held_alone, held_through}
use Rattle.dns_engine.proofs.ThroughLemmas.{Follow, held_follow, newest_newest, alone_all}
use Rattle.store_recovery.specs.declared.recent_versions.RecentVersions.{RecentVersions}
use Rattle.store_recovery.specs.Replay.{IsReplayed, first_version, begun, held_from}
use Rattle.store_recovery.specs.Rebased.{versions_in, with_number, numbered_from, rebased, changes_of}
use Rattle.store_recovery.proofs.HeldLemmas.{begun_newest, held_newest, held_keep}

-- one version more has its number
numbered_more : (from number : ℕ) (versions : List Version) (place : ℕ) (d next : Version) → place < length versions → number ≡ from + place
    → next ≡ with_number number (get_or (numbered_from from (take place versions) ++ drop place versions) place d)
    → set (numbered_from from (take place versions) ++ drop place versions) place next ≡ numbered_from from (take (suc place) versions) ++ drop (suc place) versions
numbered_more from number [] place d next within at is = absurd (omega (arith, within))
numbered_more from number (version ∷ versions) zero d next within at is =
    let here : number ≡ from = omega (arith, at) in
    ap (λ (v : Version). v ∷ versions) (is ∙ ap (λ (n : ℕ). with_number n version) here)
numbered_more from number (version ∷ versions) (suc place) d next within at is =
    ap (λ (vs : List Version). with_number from version ∷ vs) (numbered_more (from + 1) number versions place d next (omega (arith, within)) (omega (arith, at)) is)

pub one_more_numbered : (versions now : List Version) (place number : ℕ) (d next : Version) → place < length versions → number ≡ place + 1
    → now ≡ numbered_from 1 (take place versions) ++ drop place versions → next ≡ with_number number (get_or now place d)
    → set now place next ≡ numbered_from 1 (take (place + 1) versions) ++ drop (place + 1) versions
one_more_numbered versions now place number d next within at so_far is =
    let before : List Version = numbered_from 1 (take place versions) ++ drop place versions in
    let more : suc place ≡ place + 1 = omega arith in
    let step : set before place next ≡ numbered_from 1 (take (suc place) versions) ++ drop (suc place) versions =
    numbered_more 1 number versions place d next within (omega (arith, at)) (is ∙ ap (λ (vs : List Version). with_number number (get_or vs place d)) so_far) in
    ap (λ (vs : List Version). set vs place next) so_far
    ∙ (step ∙ ap (λ (n : ℕ). numbered_from 1 (take n versions) ++ drop n versions) more)

pub all_numbered : (versions now : List Version) (place : ℕ) → length versions ≤ place → now ≡ numbered_from 1 (take place versions) ++ drop place versions → now ≡ numbered_from 1 versions
all_numbered versions now place end is =
    is ∙ (ap (λ (vs : List Version). numbered_from 1 vs ++ drop place versions) (take_all place versions end)
    ∙ (ap (λ (vs : List Version). numbered_from 1 versions ++ vs) (drop_all place versions end) ∙ append-nil (numbered_from 1 versions)))

-- numbers leave as many versions
numbered_length : (number : ℕ) (versions : List Version) → length (numbered_from number versions) ≡ length versions
numbered_length number [] = refl
numbered_length number (version ∷ versions) = ap suc (numbered_length (number + 1) versions)

-- a vector of which each version has been given its number
pub all_written : (len : ℕ) (versions written rest : List Version) → len ≡ length versions → written ≡ numbered_from 1 versions → take len (written ++ rest) ≡ numbered_from 1 versions
all_written len versions written rest whole is =
    let long : len ≡ length written = whole ∙ (sym (numbered_length 1 versions) ∙ sym (ap length is)) in
    ap (λ (n : ℕ). take n (written ++ rest)) long ∙ (take-append_seam written rest ∙ is)

joined : (x y : Version) (xs ys : List Version) → x ≡ y → xs ≡ ys → x ∷ xs ≡ y ∷ ys
joined x y xs ys p q = cc

-- the last version alone
pub one_in_all : (versions : List Version) (last : Version) → length versions ≡ 0 → last ∷ versions ≡ versions ++ last ∷ []
one_in_all [] last none = refl
one_in_all (version ∷ versions) last none = absurd (omega (arith, none))

-- the oldest in front, and the last behind the others
pub oldest_in_all : (versions : List Version) (last oldest : Version) (rest behind : List Version) → 0 < length versions → oldest ≡ get_or versions 0 oldest
    → rest ≡ remove versions 0 → behind ≡ rest ++ last ∷ [] → oldest ∷ behind ≡ versions ++ last ∷ []
oldest_in_all [] last oldest rest behind some is left put = absurd (omega (arith, some))
oldest_in_all (version ∷ versions) last oldest rest behind some is left put =
    joined oldest version behind (versions ++ last ∷ []) is (put ∙ ap (λ (vs : List Version). vs ++ last ∷ []) left)

-- and as many, but for one
pub behind_few : (versions behind : List Version) (last oldest : Version) → oldest ∷ behind ≡ versions ++ last ∷ [] → length versions ≤ KEPT → length behind ≤ KEPT
behind_few versions behind last oldest all few = omega (arith, ap length all, length_push versions last, few)

-- versions as a cell begins with them
pub rebased_as : (versions : List Version) (oldest first : Version) (behind later : List Version) → oldest ∷ behind ≡ versions → later ≡ numbered_from 1 behind
    → first ≡ first_version oldest.zone → first ∷ later ≡ rebased versions
rebased_as versions oldest first behind later all numbered begins =
    joined first (first_version oldest.zone) later (numbered_from 1 behind) begins numbered ∙ ap rebased all

-- what may be published behind a version may be so behind one of the same zone, with another number
next_numbered : (version other next : Version) (number : ℕ) → other.zone ≡ version.zone → number ≡ other.number + 1 → IsNext version next → IsNext other (with_number number next)
next_numbered version other next number same at is = record {
  update = is.update;
  makes = record {
    taken = subst (λ (z : List Record). verdict z is.update true ≡ None) (sym same) is.makes.taken;
    zone = subst (λ (z : List Record). act z is.update ≡ Some next.zone) (sym same) is.makes.zone;
    changed = subst (λ (z : List Record). next.zone ≢ z) (sym same) is.makes.changed;
    number = at;
    changes = subst (λ (z : List Record). KnowsChanges z (with_number number next)) (sym same) is.makes.changes;
  };
}

numbered_next : (version other : Version) (later : List Version) (number : ℕ) → other.zone ≡ version.zone → number ≡ other.number + 1 → AreNext version later → AreNext other (numbered_from number later)
numbered_next version other [] number same at are = tt
numbered_next version other (next ∷ later) number same at are =
    (next_numbered version other next number same at are.0, numbered_next next (with_number number next) later (number + 1) refl refl are.1)

none_first : (first : Version) (later : List Version) → first ∷ later ≡ [] → ⊥
none_first first later e = cc

-- the first of versions is the first version of its zone, and the others may be published behind it
abbrev Begin : List Version → Type 0
Begin [] = ⊥
Begin (version ∷ later) = IsFirst version.zone version × AreNext version later

pub rebased_begin : (versions : List Version) (first : Version) (later : List Version) → Follow versions → first ∷ later ≡ rebased versions → IsFirst first.zone first × AreNext first later
rebased_begin [] first later follow is = absurd (none_first first later is)
rebased_begin (oldest ∷ versions) first later follow is =
    let begin : Begin (rebased (oldest ∷ versions)) =
    (record { number = refl; zone = refl; changes = refl }, numbered_next oldest (first_version oldest.zone) versions 1 refl refl follow) in
    subst Begin (sym is) begin

-- the newest versions of a replay are the last of those that an engine publishes
newest_held : (zone : List Record) (messages : List Messages) (kept : RecentVersions) (is : IsReplayed zone messages kept) → versions_in kept ≡ all_held (held_from (begun zone) is.updates)
newest_held zone messages kept is =
    ap (λ (vs : List Version). vs ++ kept.last ∷ []) is.older ∙ ap (λ (v : Version). (held_from (begun zone) is.updates).older ++ v ∷ []) is.last

held_is_newest : (zone : List Record) (messages : List Messages) (kept : RecentVersions) (is : IsReplayed zone messages kept) → IsNewest zone (held_from (begun zone) is.updates)
held_is_newest zone messages kept is = held_newest zone (begun zone) is.updates (begun_newest zone) is.taken

newest_follow : (zone : List Record) (messages : List Messages) (kept : RecentVersions) → IsReplayed zone messages kept → Follow (versions_in kept)
newest_follow zone messages kept is =
    subst Follow (sym (newest_held zone messages kept is)) (held_follow zone (held_from (begun zone) is.updates) (held_is_newest zone messages kept is))

-- and they are begun with
pub newest_begin : (zone : List Record) (messages : List Messages) (kept : RecentVersions) (first : Version) (later : List Version) → IsReplayed zone messages kept → first ∷ later ≡ rebased (versions_in kept)
    → IsFirst first.zone first × AreNext first later
newest_begin zone messages kept first later is same = rebased_begin (versions_in kept) first later (newest_follow zone messages kept is) same

-- they are as many as are kept and the last
newest_of_all : (zone : List Record) (messages : List Messages) (kept : RecentVersions) (is : IsReplayed zone messages kept) → versions_in kept ≡ newest (KEPT + 1) (held_from (begun zone) is.updates).published
newest_of_all zone messages kept is =
    let held : Held = held_from (begun zone) is.updates in
    let n : IsNewest zone held = held_is_newest zone messages kept is in
    let keep : held.keep ≡ KEPT = held_keep (begun zone) is.updates in
    let parts : held.published ≡ n.before ++ all_held held = n.ends ∙ append_assoc n.before held.older (held.last ∷ []) in
    let front : length n.before ≡ length (n.before ++ all_held held) - (KEPT + 1) =
    omega (arith, length-append n.before (all_held held), length_push held.older held.last, length-append n.before held.older, n.number, n.most, keep) in
    newest_held zone messages kept is
    ∙ (sym (drop-append_seam n.before (all_held held))
    ∙ (ap (λ (k : ℕ). drop k (n.before ++ all_held held)) front ∙ ap (λ (vs : List Version). newest (KEPT + 1) vs) (sym parts)))

-- their zones and their changes stay
numbered_zones : (number : ℕ) (versions : List Version) → zones_of (numbered_from number versions) ≡ zones_of versions
numbered_zones number [] = refl
numbered_zones number (version ∷ versions) = ap (λ (zs : List (List Record)). version.zone ∷ zs) (numbered_zones (number + 1) versions)

numbered_changes : (number : ℕ) (versions : List Version) → changes_of (numbered_from number versions) ≡ changes_of versions
numbered_changes number [] = refl
numbered_changes number (version ∷ versions) = ap (λ (cs : List (Option Changes)). version.changes ∷ cs) (numbered_changes (number + 1) versions)

rebased_zones : (versions : List Version) → zones_of (rebased versions) ≡ zones_of versions
rebased_zones [] = refl
rebased_zones (oldest ∷ later) = ap (λ (zs : List (List Record)). oldest.zone ∷ zs) (numbered_zones 1 later)

rebased_changes : (versions : List Version) → drop 1 (changes_of (rebased versions)) ≡ drop 1 (changes_of versions)
rebased_changes [] = refl
rebased_changes (oldest ∷ later) = numbered_changes 1 later

-- the newest of a list, of which each has something
newest_map : {A B : Type 0} (f : A → B) (most : ℕ) (values : List A) → map f (newest most values) ≡ newest most (map f values)
newest_map f most values =
    sym (drop-map f (length values - most) values) ∙ ap (λ (n : ℕ). drop (n - most) (map f values)) (sym (length-map values f))

-- the newest of lists that differ in the oldest alone
drop_later : {A : Type 0} (k : ℕ) (values : List A) → drop 1 (drop k values) ≡ drop k (drop 1 values)
drop_later k values = drop-drop 1 k values ∙ (ap (λ (n : ℕ). drop n values) (omega arith) ∙ sym (drop-drop k 1 values))

newest_later : {A : Type 0} (most : ℕ) (xs ys : List A) → length xs ≡ length ys → drop 1 xs ≡ drop 1 ys → drop 1 (newest most xs) ≡ drop 1 (newest most ys)
newest_later {A} most xs ys long same =
    drop_later (length xs - most) xs
    ∙ (ap (λ (l : List A). drop (length xs - most) l) same
    ∙ (ap (λ (n : ℕ). drop (n - most) (drop 1 ys)) long ∙ sym (drop_later (length ys - most) ys)))

-- fewer of the newest versions, or of what they have
fewer : {B : Type 0} (f : Version → B) (zone : List Record) (messages : List Messages) (kept : RecentVersions) (keep : ℕ) (is : IsReplayed zone messages kept) → keep ≤ KEPT
    → newest (keep + 1) (map f (versions_in kept)) ≡ newest (keep + 1) (map f (held_from (begun zone) is.updates).published)
fewer {B} f zone messages kept keep is few =
    let published : List Version = (held_from (begun zone) is.updates).published in
    let all : map f (versions_in kept) ≡ newest (KEPT + 1) (map f published) = ap (map f) (newest_of_all zone messages kept is) ∙ newest_map f (KEPT + 1) published in
    ap (λ (l : List B). newest (keep + 1) l) all ∙ newest_newest (keep + 1) (KEPT + 1) (map f published) (omega (arith, few))

-- what is held that begins with them
resumed : (versions : List Version) (first : Version) (later : List Version) (keep : ℕ) → first ∷ later ≡ rebased versions
    → all_held (held_through (held_alone (first ∷ []) first keep) later) ≡ newest (keep + 1) (rebased versions)
resumed versions first later keep is = alone_all first keep later ∙ ap (λ (vs : List Version). newest (keep + 1) vs) is

pub resumed_zones : (zone : List Record) (messages : List Messages) (kept : RecentVersions) (first : Version) (later : List Version) (keep : ℕ) (is : IsReplayed zone messages kept)
    → keep ≤ KEPT → first ∷ later ≡ rebased (versions_in kept)
    → zones_of (all_held (held_through (held_alone (first ∷ []) first keep) later)) ≡ newest (keep + 1) (zones_of (held_from (begun zone) is.updates).published)
resumed_zones zone messages kept first later keep is few same =
    ap zones_of (resumed (versions_in kept) first later keep same)
    ∙ (newest_map (λ (v : Version). v.zone) (keep + 1) (rebased (versions_in kept))
    ∙ (ap (λ (zs : List (List Record)). newest (keep + 1) zs) (rebased_zones (versions_in kept)) ∙ fewer (λ (v : Version). v.zone) zone messages kept keep is few))

rebased_long : (versions : List Version) → length (changes_of (rebased versions)) ≡ length (changes_of versions)
rebased_long [] = refl
rebased_long (oldest ∷ later) = ap (λ (cs : List (Option Changes)). suc (length cs)) (numbered_changes 1 later)

pub resumed_changes : (zone : List Record) (messages : List Messages) (kept : RecentVersions) (first : Version) (later : List Version) (keep : ℕ) (is : IsReplayed zone messages kept)
    → keep ≤ KEPT → first ∷ later ≡ rebased (versions_in kept)
    → drop 1 (changes_of (all_held (held_through (held_alone (first ∷ []) first keep) later))) ≡ drop 1 (newest (keep + 1) (changes_of (held_from (begun zone) is.updates).published))
resumed_changes zone messages kept first later keep is few same =
    let versions : List Version = versions_in kept in
    ap (λ (vs : List Version). drop 1 (changes_of vs)) (resumed versions first later keep same)
    ∙ (ap (λ (cs : List (Option Changes)). drop 1 cs) (newest_map (λ (v : Version). v.changes) (keep + 1) (rebased versions))
    ∙ (newest_later (keep + 1) (changes_of (rebased versions)) (changes_of versions) (rebased_long versions) (rebased_changes versions)
    ∙ ap (λ (cs : List (Option Changes)). drop 1 cs) (fewer (λ (v : Version). v.changes) zone messages kept keep is few)))
