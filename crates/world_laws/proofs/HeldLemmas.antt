-- The versions that names have, and that are kept, by what is in hand.
use Rattle.std.proofs.Common.{◌≡◌, refl, sym, ap, ◌∙◌, subst, ℕ, ◌+◌, ◌-◌, ◌<◌, ◌≤◌, ◌⊎◌, false, inl, inr, List, [], ◌∷◌, ◌++◌, length, drop, arith, Some}
use Rattle.std.specs.Prelude.{◌==◌, max, min, bytes_eq}
use Rattle.std.specs.List.{slice_get, flat_map}
use Rattle.std.specs.Option.{option_and_then, option_to_list}
use Rattle.std.proofs.lemmas.Bool.{cases_Bool, cases_lt}
use Rattle.std.proofs.lemmas.Bool.Decides.{eqb_tells}
use Rattle.std.proofs.lemmas.List.{drop_all}
use Rattle.cell_core.proofs.CountLemmas.{one_if}
use Rattle.cell_core.proofs.SeatLemmas.{get_within}
use Rattle.cell_core.proofs.ShowsLemmas.{last_lies, latest_slot, number_there, latest_number}
use Rattle.cell_core.proofs.UserLemmas.{owner_finds, owner_is_given}
use Rattle.cell_core.specs.Cell.{Cell}
use Rattle.cell_core.specs.Shows.{Shows, IsLive, SlotIs}
use Rattle.cell_core.specs.Words.{found_by, slot_of, number_in}
use Rattle.cell_core.specs.declared.words.Owner.{Owner}
use Rattle.cell_core.specs.declared.words.Owner.TheVariants.{Holding, Twice, Weakly, Both, Burying, Fading, Resetting, Freeing, Spent}
use Rattle.dns_rdata.specs.Record.{Record}
use Rattle.transfer_core.proofs.VersionLemmas.{drop_here}
use Rattle.zone_tree.specs.Version.{Version as Numbered}
use Rattle.world_run.specs.declared.names.Named.{Named}
use Rattle.world_run.specs.declared.step.WorldReply.{WorldReply}
use Rattle.world_run.specs.declared.step.WorldStep.{WorldStep as Line}
use Rattle.world_laws.specs.Held.{HoldsVersion, HoldVersions, IsAtRest}
use Rattle.world_laws.specs.Replays.{IsSentAt}
use Rattle.world_run.specs.World.{World, started, owner_of, kept_versions, play}
use Rattle.world_laws.proofs.CallReplays.{script, updates_in}
use Rattle.world_laws.proofs.OtherCalls.{any_update}
use Rattle.world_laws.proofs.UseEnds.{no_swaps}
use Rattle.world_laws.proofs.UseLemmas.{IsOfKind, AllFit, times, times_append, fit_front, fit_back, lives}
use Rattle.world_laws.proofs.UseLemmas.UseKind.{holds, weakly}
use Rattle.world_laws.proofs.UsePlay.{Kept, played_kept}
use Rattle.world_laws.proofs.UseLists.{Zones, window_uses}
use Rattle.world_laws.proofs.WindowRest.{Rests, Noted, window_buried, window_free}
use Rattle.world_run.specs.declared.entries.Entry.{Entry}
use Rattle.world_laws.proofs.UseTurns.{times_four, fits_four}
use Rattle.world_laws.proofs.UseWorld.{store_of, stays_of, uses_as, both_uses, kept_uses, kept_left, entries_left, call_uses, any_publishes, AllInUse}
use Rattle.world_laws.proofs.ReplayLemmas.{goes_replayed, replayed_us}

-- the number in W is the last
latest_has : (words : Zones) (cell : Cell Numbered) (s : Shows words cell) → number_in words (slot_of words.latest) ≡ Some s.plan.last
latest_has words cell s =
    let lies = last_lies words cell s in
    let found = get_within words.table (s.plan.slot s.plan.last) (omega (arith, lies.0, s.table.size)) in
    let is : IsLive words cell s.plan (s.plan.slot s.plan.last) s.plan.last found.0 = subst (λ p. SlotIs words cell s.plan (s.plan.slot s.plan.last) p found.0) lies.1 (s.table.slot_is (s.plan.slot s.plan.last) found.0 found.1) in
    ap (number_in words) (latest_slot words cell s) ∙ number_there words (s.plan.slot s.plan.last) s.plan.last is.value found.0 found.1 is.version

-- cells that the same words show have as many versions
pub same_length : (words : Zones) (one two : Cell Numbered) → Shows words one → Shows words two → length one.published ≡ length two.published
same_length words one two s t =
    let is = latest_number words two t s.plan.last (latest_has words one s) in
    let a = s.numbers.last in
    let b = t.numbers.last in
    omega (arith, is, a, b)

-- a name's owner is in hand
named_holds : (owners : List Owner) (name : List ℕ) (names : List Named) (owner : ℕ) → AllFit owners (uses_as holds names) → owner_of name names ≡ Some owner → IsOfKind owners owner holds
named_holds owners name [] owner fits e = absurd (let wrong = e in cc)
named_holds owners name (x ∷ names) owner fits e =
    elim (cases_Bool (bytes_eq x.name name)) [
      | inl same ↦ (let found = rw same at e in let it : x.owner ≡ owner = (let f = found in cc) in subst (λ o. IsOfKind owners o holds) it fits.0)
      | inr other ↦ named_holds owners name names owner fits.1 (rw other at e)
    ]

-- what is in hand beside the calls under way
pub parts_of : (world : World) (h : AllInUse world) → AllFit world.words.owners (uses_as holds world.names) × AllFit world.words.owners (kept_left h.from world.keep world.kept (any_update world.calls)) × AllFit world.words.owners (entries_left (h.from + length world.kept) world.entries (any_update world.calls))
parts_of world h =
    let kept_ones = kept_left h.from world.keep world.kept (any_update world.calls) in
    let window = entries_left (h.from + length world.kept) world.entries (any_update world.calls) in
    let all = fits_four world.words.owners [] (both_uses world.names world.weak_names) (kept_ones ++ window) (call_uses h.last h.from (stays_of (store_of world)) world.calls) h.in_use.fit in
    (fit_front world.words.owners (uses_as holds world.names) (uses_as weakly world.weak_names) all.1, fit_front world.words.owners kept_ones window all.2, fit_back world.words.owners kept_ones window all.2)

name_has : (world : World) (cell : Cell Numbered) (name : List ℕ) (owner : ℕ) → AllInUse world → Shows world.words cell → owner_of name world.names ≡ Some owner → HoldsVersion cell.published world name owner
name_has world cell name owner h s e =
    let held = named_holds world.words.owners name world.names owner (parts_of world h).0 e in
    let found = owner_finds world.words cell owner held.0 held.1 s held.2 in
    record {
      number = held.0;
      place = held.1;
      version = found.0;
      holds = held.2;
      lies = found.1;
      has = ap (option_and_then (found_by world.words)) e ∙ (owner_is_given world.words cell owner held.0 held.1 s held.2 ∙ found.2);
      published_so = found.2;
    }

-- the versions that are kept are those published with their numbers, in turn
kept_are : (words : Zones) (cell : Cell Numbered) (from : ℕ) (kept : List ℕ) → Shows words cell → AllFit words.owners (kept_uses from kept) → from + length kept ≡ length cell.published → flat_map (λ owner. option_to_list (found_by words owner)) kept ≡ drop from cell.published
kept_are words cell from [] s fits count = sym (drop_all from cell.published (omega (arith, count)))
kept_are words cell from (o ∷ os) s fits count =
    let found = owner_finds words cell o from fits.0.0 s fits.0.1 in
    let given : found_by words o ≡ Some found.0 = owner_is_given words cell o from fits.0.0 s fits.0.1 ∙ found.2 in
    let more = kept_are words cell (from + 1) os s fits.1 (omega (arith, count)) in
    ap (λ v. option_to_list v ++ flat_map (λ owner. option_to_list (found_by words owner)) os) given ∙ (ap (λ vs. found.0 ∷ vs) more ∙ sym (drop_here cell.published from found.0 (sym found.2)))

kept_is : (world : World) (cell : Cell Numbered) (h : AllInUse world) → any_update world.calls ≡ false → Shows world.words cell → kept_versions world ≡ drop h.from cell.published
kept_is world cell h none s =
    let fits = rw none at (parts_of world h).1 in
    let swaps = no_swaps world.calls none in
    let same = same_length world.words h.cell cell h.shows s in
    kept_are world.words cell h.from world.kept s fits (omega (arith, h.kept_count, h.swapped, swaps, h.counted, same))

pub held_by_kept : (first : List Record) (lines : List Line) (top : ℕ) (begun_as world : World) → Kept (script (IsSentAt lines) top) first begun_as world → HoldVersions first lines world
held_by_kept first lines top begun_as world k =
    let r = goes_replayed first lines top world k.goes in
    record {
      replayed = r;
      names = λ name owner e. name_has world r.reached.cell name owner k.all_in_use r.reached.shows e;
      kept = λ none. (
          let swaps = no_swaps world.calls none in
          let same = same_length world.words k.all_in_use.cell r.reached.cell k.all_in_use.shows r.reached.shows in
          let e : k.all_in_use.from ≡ length r.updates - world.keep = omega (arith, k.all_in_use.kept_from, k.all_in_use.swapped, swaps, k.all_in_use.counted, same, r.replays.counted) in
          kept_is world r.reached.cell k.all_in_use none r.reached.shows ∙ ap (λ n. drop n r.reached.cell.published) e
          );
    }

pub held_us : (first : List Record) (lines : List Line) (top : ℕ) (begun_as world : World) (k : Kept (script (IsSentAt lines) top) first begun_as world) → (held_by_kept first lines top begun_as world k).replayed.updates ≡ updates_in k.goes.us
unfolding held_by_kept
held_us first lines top begun_as world k = (replayed_us first lines top world k.goes).0

-- whatever lines were played, versions are held
pub played_held : (first : List Record) (keep window : ℕ) (lines : List Line) (replies : List WorldReply) (world : World) → play (started first keep window) lines ≡ Some (replies, world) → HoldVersions first lines world
played_held first keep window lines replies world e = (let k = played_kept first keep window lines replies world e in held_by_kept first lines k.0 (started first keep window) world k.1)

-- what is kept has a number from that of the oldest on
kept_has : (owners : List Owner) (from : ℕ) (kept : List ℕ) (i : ℕ) → AllFit owners (kept_uses from kept) → 0 < times i (kept_uses from kept) → (number : ℕ) × (place : ℕ) × (from ≤ number) × (slice_get owners i ≡ Some (Holding number place))
kept_has owners from [] i fits some = absurd (omega (arith, some))
kept_has owners from (o ∷ os) i fits some =
    elim (eqb_tells o i) [
      | inl same ↦ (from, fits.0.0, omega arith, ap (slice_get owners) (sym same.1) ∙ fits.0.1)
      | inr other ↦ (
          let none : one_if (o == i) ≡ 0 = rw other.0 refl in
          let more = kept_has owners (from + 1) os i fits.1 (omega (arith, some, none)) in
          (more.0, more.1, omega (arith, more.2), more.3)
          )
    ]

-- and each of these numbers has an owner
kept_owns : (owners : List Owner) (from : ℕ) (kept : List ℕ) (number : ℕ) → AllFit owners (kept_uses from kept) → from ≤ number → number < from + length kept → (owner : ℕ) × (place : ℕ) × (slice_get owners owner ≡ Some (Holding number place))
kept_owns owners from [] number fits within less = absurd (omega (arith, within, less))
kept_owns owners from (o ∷ os) number fits within less =
    elim (eqb_tells from number) [
      | inl same ↦ (o, fits.0.0, fits.0.1 ∙ ap (λ n. Some (Holding n fits.0.0)) same.1)
      | inr other ↦ kept_owns owners (from + 1) os number fits.1 (omega (arith, within, other.1)) (omega (arith, less))
    ]

-- an owner of the window is a weak one, of one of the last numbers
window_has : (owners : List Owner) (total : ℕ) (entries : List Entry) (i : ℕ) → AllFit owners (window_uses total entries) → 0 < times i (window_uses total entries) → (number : ℕ) × (place : ℕ) × (total ≤ number + length entries) × (slice_get owners i ≡ Some (Weakly number place))
window_has owners total [] i fits some = absurd (omega (arith, some))
window_has owners total (x ∷ entries) i fits some =
    elim (eqb_tells x.owner i) [
      | inl same ↦ (x.number, fits.0.1, (let n = fits.0.0 in omega (arith, n)), ap (slice_get owners) (sym same.1) ∙ fits.0.2)
      | inr other ↦ (
          let none : one_if (x.owner == i) ≡ 0 = rw other.0 refl in
          let more = window_has owners total entries i fits.1 (omega (arith, some, none)) in
          (more.0, more.1, (let n = more.2 in omega (arith, n)), more.3)
          )
    ]

-- and each of these numbers has one
window_owns : (owners : List Owner) (total : ℕ) (entries : List Entry) (number : ℕ) → AllFit owners (window_uses total entries) → total ≤ number + length entries → number < total → (owner : ℕ) × (place : ℕ) × (slice_get owners owner ≡ Some (Weakly number place))
window_owns owners total [] number fits within less = absurd (omega (arith, within, less))
window_owns owners total (x ∷ entries) number fits within less =
    elim (eqb_tells x.number number) [
      | inl same ↦ (x.owner, fits.0.1, fits.0.2 ∙ ap (λ n. Some (Weakly n fits.0.1)) same.1)
      | inr other ↦ (let n = fits.0.0 in let apart = other.1 in window_owns owners total entries number fits.1 (omega (arith, within, n, apart)) less)
    ]

window_few : (owners : List Owner) (total : ℕ) (entries : List Entry) → AllFit owners (window_uses total entries) → length entries ≤ total
window_few owners total [] fits = omega arith
window_few owners total (x ∷ entries) fits = let n = fits.0.0 in omega (arith, n)

-- an owner that isn't spent is among those of the versions that are kept, or the window's, where nobody else has one in hand
abbrev AtRestAs : ℕ → ℕ → Owner → Type 0
AtRestAs from back how = (how ≡ Spent) ⊎ (((number : ℕ) × (place : ℕ) × (from ≤ number) × (how ≡ Holding number place)) ⊎ ((number : ℕ) × (place : ℕ) × (back ≤ number) × (how ≡ Weakly number place)))

-- all that is in hand then
record InStore (owners : List Owner) (from back total : ℕ) (kept : List ℕ) (entries : List Entry) : Type 0 where
  whole : back + length entries ≡ total
  strong : AllFit owners (kept_uses from kept)
  weak : AllFit owners (window_uses total entries)
  exact : (i : ℕ) → times i (kept_uses from kept) + times i (window_uses total entries) ≡ lives (slice_get owners i)

kept_one : (owners : List Owner) (from back total : ℕ) (kept : List ℕ) (entries : List Entry) (owner : ℕ) (how : Owner) → InStore owners from back total kept entries → slice_get owners owner ≡ Some how → lives (Some how) ≡ 1 → AtRestAs from back how
kept_one owners from back total kept entries owner how s at one =
    let count = s.exact owner in
    let is : lives (slice_get owners owner) ≡ 1 = ap lives at ∙ one in
    elim (cases_lt 0 (times owner (kept_uses from kept))) [
      | inl strong ↦ (
          let has = kept_has owners from kept owner s.strong strong in
          inr (inl (has.0, has.1, has.2, (let e : Some how ≡ Some (Holding has.0 has.1) = sym at ∙ has.3 in cc)))
          )
      | inr none ↦ (
          let has = window_has owners total entries owner s.weak (omega (arith, count, is, none)) in
          let within = has.2 in
          let whole = s.whole in
          inr (inr (has.0, has.1, omega (arith, within, whole), (let e : Some how ≡ Some (Weakly has.0 has.1) = sym at ∙ has.3 in cc)))
          )
    ]

spent_or_kept : (owners : List Owner) (from back total : ℕ) (kept : List ℕ) (entries : List Entry) (owner : ℕ) (how : Owner) → InStore owners from back total kept entries → slice_get owners owner ≡ Some how → AtRestAs from back how
spent_or_kept owners from back total kept entries owner (Holding number place) s at = kept_one owners from back total kept entries owner (Holding number place) s at refl
spent_or_kept owners from back total kept entries owner (Burying place) s at = kept_one owners from back total kept entries owner (Burying place) s at refl
spent_or_kept owners from back total kept entries owner (Twice number place) s at = kept_one owners from back total kept entries owner (Twice number place) s at refl
spent_or_kept owners from back total kept entries owner (Weakly number place) s at = kept_one owners from back total kept entries owner (Weakly number place) s at refl
spent_or_kept owners from back total kept entries owner (Both number place) s at = kept_one owners from back total kept entries owner (Both number place) s at refl
spent_or_kept owners from back total kept entries owner (Fading place) s at = kept_one owners from back total kept entries owner (Fading place) s at refl
spent_or_kept owners from back total kept entries owner (Resetting place) s at = kept_one owners from back total kept entries owner (Resetting place) s at refl
spent_or_kept owners from back total kept entries owner (Freeing place) s at = kept_one owners from back total kept entries owner (Freeing place) s at refl
spent_or_kept owners from back total kept entries owner Spent s at = inl refl

-- the versions that are kept have the last number and those before it, and so do those of the window
rests_so : (world : World) (h : AllInUse world) → world.names ≡ [] → world.weak_names ≡ [] → world.calls ≡ [] → (last : ℕ) → length h.cell.published ≡ last + 1
    → Rests world.words (last - world.keep) (last + 1 - length world.entries) last × Noted world.words (last + 1 - length world.entries) last × (length world.entries ≤ last + 1)
rests_so world h no_names no_weak no_calls last count =
    let no_update : any_update world.calls ≡ false = ap any_update no_calls in
    let no_publisher : any_publishes world.calls ≡ false = ap any_publishes no_calls in
    let swaps = no_swaps world.calls no_update in
    let same : h.last ≡ last = omega (arith, count, h.counted) in
    let from_is : h.from ≡ last - world.keep = omega (arith, h.kept_from, h.swapped, swaps, same) in
    let total_is : h.from + length world.kept ≡ last + 1 = omega (arith, h.kept_count, h.swapped, swaps, same) in
    let fits = rw no_update at (parts_of world h).1 in
    let window = rw no_update at (parts_of world h).2 in
    let kept_ones = kept_left h.from world.keep world.kept (any_update world.calls) in
    let entries = entries_left (h.from + length world.kept) world.entries (any_update world.calls) in
    let few = window_few world.words.owners (h.from + length world.kept) world.entries window in
    let back : ℕ = last + 1 - length world.entries in
    let whole : back + length world.entries ≡ h.from + length world.kept = omega (arith, few, total_is) in
    let stored : InStore world.words.owners h.from back (h.from + length world.kept) world.kept world.entries =
    record {
      whole = whole;
      strong = fits;
      weak = window;
      exact = λ i. (
          let all = h.in_use.exact i in
          let four = times_four i [] (both_uses world.names world.weak_names) (kept_ones ++ entries) (call_uses h.last h.from (stays_of (store_of world)) world.calls) in
          let two = times_append i kept_ones entries in
          let both = times_append i (uses_as holds world.names) (uses_as weakly world.weak_names) in
          let names : times i (uses_as holds world.names) ≡ 0 = ap (λ ns. times i (uses_as holds ns)) no_names in
          let weaks : times i (uses_as weakly world.weak_names) ≡ 0 = ap (λ ns. times i (uses_as weakly ns)) no_weak in
          let calls : times i (call_uses h.last h.from (stays_of (store_of world)) world.calls) ≡ 0 = ap (λ cs. times i (call_uses h.last h.from (stays_of (store_of world)) cs)) no_calls in
          let kept : times i kept_ones ≡ times i (kept_uses h.from world.kept) = ap (λ b. times i (kept_left h.from world.keep world.kept b)) no_update in
          let noted : times i entries ≡ times i (window_uses (h.from + length world.kept) world.entries) = ap (λ b. times i (entries_left (h.from + length world.kept) world.entries b)) no_update in
          omega (arith, all, four, two, both, names, weaks, calls, kept, noted)
          );
    } in (
      subst (λ from. Rests world.words from back last) from_is
          (record {
            publisher = h.publisher refl no_publisher;
            within = omega (arith, from_is);
            owners = λ owner how at. spent_or_kept world.words.owners h.from back (h.from + length world.kept) world.kept world.entries owner how stored at;
            owned = λ number within less. kept_owns world.words.owners h.from world.kept number fits within (omega (arith, less, h.kept_count, h.swapped, swaps, same));
          }),
      (λ number within less. window_owns world.words.owners (h.from + length world.kept) world.entries number window (omega (arith, within, whole)) (omega (arith, less, total_is))),
      omega (arith, few, total_is),
    )

-- when no call is under way and no name is in use, exactly the versions before those that are kept are buried
pub played_rests : (first : List Record) (keep window : ℕ) (lines : List Line) (replies : List WorldReply) (world : World) → play (started first keep window) lines ≡ Some (replies, world) → world.names ≡ [] → world.weak_names ≡ [] → world.calls ≡ [] → IsAtRest first keep lines world
played_rests first keep window lines replies world e no_names no_weak no_calls =
    let all = played_kept first keep window lines replies world e in
    let k = all.1 in
    let r = goes_replayed first lines all.0 world k.goes in
    let same = same_length world.words k.all_in_use.cell r.reached.cell k.all_in_use.shows r.reached.shows in
    let last = length r.updates in
    let noted = length world.entries in
    let so = rests_so world k.all_in_use no_names no_weak no_calls last (omega (arith, same, r.replays.counted)) in
    let rest = subst (λ n. Rests world.words (last - n) (last + 1 - noted) last) k.same.0 so.0 in
    let few = so.2 in
    record {
      replayed = r;
      buried = window_buried world.words r.reached.cell (last - keep) (last + 1 - noted) last r.reached.shows r.replays.counted rest;
      free = window_free world.words r.reached.cell (last - keep) (last + 1 - noted) last (min keep last + 1) noted (max (min keep last + 1) noted) r.reached.shows r.replays.counted rest so.1 (omega arith) (omega (arith, few))
          (elim (cases_lt noted (min keep last + 1)) [ inl less ↦ inl (omega (arith, less), omega (arith, less)) | inr more ↦ inr (omega (arith, more), omega (arith, more)) ]);
    }
