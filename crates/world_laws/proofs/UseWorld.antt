-- The owners that a world has in hand: those of names, those of the versions that are kept, and those of the calls under way.
use Rattle.std.proofs.Common.{◌≡◌, refl, sym, ap, ◌∙◌, subst, ℕ, zero, suc, ◌+◌, ◌-◌, ◌≤◌, Bool, true, false, ◌⊎◌, inl, inr, List, [], ◌∷◌, ◌++◌, length, drop, arith, Option, Some, None}
use Rattle.std.specs.Prelude.{◌||◌, ◌&&◌, nat_lt, bytes_eq}
use Rattle.std.proofs.lemmas.Bool.{cases_Bool}
use Rattle.cell_core.proofs.CountLemmas.{one_if}
use Rattle.cell_core.proofs.ShowsLemmas.{latest_number}
use Rattle.cell_core.proofs.StepShows.{step_shows}
use Rattle.cell_core.proofs.UserLemmas.{owner_finds, owner_is_given}
use Rattle.cell_core.specs.Cell.{Cell}
use Rattle.cell_core.specs.Shows.{Shows, ShowsStep}
use Rattle.cell_core.specs.WordSteps.{Makes}
use Rattle.cell_core.specs.declared.words.Publisher.TheVariants.{Probing}
use Rattle.cell_core.specs.declared.words.WordEvent.{WordEvent}
use Rattle.cell_core.specs.declared.words.WordStep.TheVariants as word
use Rattle.std.proofs.Common.{length-append}
use Rattle.world_run.specs.declared.phase.Phase.{Phase}
use Rattle.world_run.specs.declared.phase.Phase.TheVariants as phase
use Rattle.world_run.specs.declared.phase.Progress.{Progress}
use Rattle.world_run.specs.declared.phase.Progress.TheVariants.{On, Done}
use Rattle.world_run.specs.declared.phase.End.TheVariants.{Replied}
use Rattle.world_run.specs.declared.names.Named.{Named}
use Rattle.world_run.specs.declared.calls.UnderWay.{UnderWay}
use Rattle.world_run.specs.declared.step.Answer.TheVariants as answer
use Rattle.zone_tree.specs.Version.{Version as Numbered}
use Rattle.world_run.specs.declared.phase.Purpose.{Purpose}
use Rattle.world_run.specs.declared.phase.Purpose.TheVariants as purpose
use Rattle.world_run.specs.Phases.{word_step, after, reserves, reserves_weakly, is_for_update, updates}
use Rattle.world_run.specs.declared.entries.Entry.{Entry}
use Rattle.world_run.specs.World.{World, oldest_kept, step_once, steps_up_to, go_on}
use Rattle.world_laws.proofs.CallReplays.{publishes_nothing}
use Rattle.world_laws.proofs.OtherCalls.{any_update, AtMostOne}
use Rattle.world_laws.proofs.SwapLemmas.{step_by}
use Rattle.cell_core.specs.Made.{made}
use Rattle.world_laws.proofs.UseLemmas.{UseKind, Use, InUse}
use Rattle.world_laws.proofs.UseLemmas.UseKind.{holds, has, weakly, buries, fades, resets, frees}
use Rattle.world_laws.proofs.UseLists.{Zones, Stays, use_of, window_uses, for_uses, phase_uses, kind_uses, StaysIn, StaysAt, swapped_in, swapped_at, swaps_now, publishes_in, publishes_at, reserved_at, weak_reserved_at, updates_at}
use Rattle.world_laws.proofs.UseSteps.{went}

-- the owners of names, which are alike
abbrev pub uses_as : UseKind → List Named → List Use
uses_as use_kind [] = []
uses_as use_kind (n ∷ ns) = use_of n.owner use_kind ∷ uses_as use_kind ns

-- the strong ones, and behind them the weak ones
abbrev pub both_uses : List Named → List Named → List Use
both_uses names weaks = uses_as holds names ++ uses_as weakly weaks

-- the versions that are kept have numbers in turn
abbrev pub kept_uses : ℕ → List ℕ → List Use
kept_uses from [] = []
kept_uses from (o ∷ os) = use_of o (has from) ∷ kept_uses (from + 1) os

abbrev pub left_if : Bool → List Use → List Use
left_if true ss = drop 1 ss
left_if false ss = ss

-- an update that is to give up the oldest of them has that in its own hand
abbrev pub kept_left : ℕ → ℕ → List ℕ → Bool → List Use
kept_left from keep kept update = left_if (update && nat_lt keep (length kept)) (kept_uses from kept)

-- and the window
abbrev pub entries_left : ℕ → List Entry → Bool → List Use
entries_left total entries true = []
entries_left total entries false = window_uses total entries

-- the versions that are kept, and the window
pub record Store : Type 0 where
  pub kept : List ℕ
  pub keep : ℕ
  pub entries : List Entry
  pub window : ℕ

abbrev pub store_of : World → Store
store_of world = record { kept = world.kept; keep = world.keep; entries = world.entries; window = world.window }

abbrev pub stays_of : Store → Stays
stays_of store = record { oldest = oldest_kept store.keep store.kept; count = length store.kept; window = store.window; entries = store.entries }

abbrev pub store_left : ℕ → Store → Bool → List Use
store_left from store update = kept_left from store.keep store.kept update ++ entries_left (from + length store.kept) store.entries update

abbrev pub call_uses : ℕ → ℕ → Stays → List UnderWay → List Use
call_uses last from stays [] = []
call_uses last from stays (c ∷ cs) = phase_uses last from stays c.phase ++ call_uses last from stays cs

abbrev pub AllStay : Stays → List UnderWay → Type 0
AllStay stays [] = Unit {0}
AllStay stays (c ∷ cs) = StaysIn stays c.phase × AllStay stays cs

abbrev pub swaps_of : List UnderWay → ℕ
swaps_of [] = 0
swaps_of (c ∷ cs) = swapped_in c.phase + swaps_of cs

abbrev pub any_publishes : List UnderWay → Bool
any_publishes [] = false
any_publishes (c ∷ cs) = publishes_in c.phase || any_publishes cs

abbrev pub reserved_by : List ℕ → List UnderWay → ℕ
reserved_by name [] = 0
reserved_by name (c ∷ cs) = one_if (reserves name c.phase) + reserved_by name cs

abbrev pub weak_reserved_by : List ℕ → List UnderWay → ℕ
weak_reserved_by name [] = 0
weak_reserved_by name (c ∷ cs) = one_if (reserves_weakly name c.phase) + weak_reserved_by name cs

abbrev pub called : List ℕ → List UnderWay → ℕ
called name [] = 0
called name (c ∷ cs) = one_if (bytes_eq c.name name) + called name cs

abbrev pub named_by : List ℕ → List Named → ℕ
named_by name [] = 0
named_by name (n ∷ ns) = one_if (bytes_eq n.name name) + named_by name ns

-- all that is in hand, beside a call apart
abbrev pub rest_uses : ℕ → ℕ → List Named → List Named → Store → List UnderWay → Bool → List Use
rest_uses last from names weaks store calls update = both_uses names weaks ++ (store_left from store update ++ call_uses last from (stays_of store) calls)

-- the words with names, versions kept and calls under way, and a call apart: each owner that isn't spent is in one hand
pub record Open (words : Zones) (names weaks : List Named) (store : Store) (calls : List UnderWay) (progress : Progress) : Type 0 where
  pub cell : Cell Numbered
  pub shows : Shows words cell
  pub last : ℕ
  pub from : ℕ
  pub settled : ℕ
  pub counted : length cell.published ≡ last + 1
  pub swapped : settled + (swapped_at progress + swaps_of calls) ≡ last + 1
  pub kept_count : from + length store.kept ≡ settled
  pub kept_from : from ≡ settled - (store.keep + 1)
  pub shut : nat_lt 0 store.window ≡ false → store.entries ≡ []
  pub alone : updates_at progress ≡ true → any_update calls ≡ false
  pub one : AtMostOne calls
  pub still : StaysAt (stays_of store) progress
  pub stills : AllStay (stays_of store) calls
  pub in_use : InUse words.owners (kind_uses last from (stays_of store) progress ++ rest_uses last from names weaks store calls (updates_at progress || any_update calls))
  pub publisher : publishes_at progress ≡ false → any_publishes calls ≡ false → words.publisher ≡ Probing 0
  pub names_once : (name : List ℕ) → named_by name names + (reserved_at name progress + reserved_by name calls) ≤ 1
  pub weak_once : (name : List ℕ) → named_by name weaks + (weak_reserved_at name progress + weak_reserved_by name calls) ≤ 1
  pub calls_once : (name : List ℕ) → called name calls ≤ 1

-- no call is apart
abbrev pub nothing_apart : Progress
nothing_apart = Done (Replied answer.Left)

abbrev pub AllInUse : World → Type 0
AllInUse world = Open world.words world.names world.weak_names (store_of world) world.calls nothing_apart

-- what is published behind a step
record Counted (new : Zones) (at : Phase) (cell : Cell Numbered) : Type 0 where
  next : Cell Numbered
  shows : Shows new next
  count : length next.published ≡ length cell.published + swaps_now at

count_swap : (old new : Zones) (event : WordEvent) (cell next : Cell Numbered) → Makes {T = Numbered} old word.Swap event new → ShowsStep {T = Numbered} old word.Swap event cell next → length next.published ≡ length cell.published + 1
count_swap old new event cell next (place, number, at, within, last_is, told_is, new_is) shown =
    let s = subst (λ e. ShowsStep {T = Numbered} old word.Swap e cell next) told_is shown in
    let published : next.published ≡ cell.published ++ s.0 ∷ [] = ap (λ (c : Cell Numbered). c.published) s.2.3 in
    let n : length next.published ≡ length (cell.published ++ s.0 ∷ []) = ap length published in
    omega (arith, n, length-append cell.published (s.0 ∷ []))

same_count : (next cell : Cell Numbered) → next.published ≡ cell.published → length next.published ≡ length cell.published + 0
same_count next cell e = let n : length next.published ≡ length cell.published = ap length e in omega (arith, n)

count_step : (old new : Zones) (at : Phase) (event : WordEvent) (cell : Cell Numbered) → Shows old cell → Makes old (word_step at) event new → Counted new at cell
count_step old new (phase.Load name) event cell s m = let t = step_shows old new word.Load event cell s m in record { next = t.0; shows = t.2; count = same_count t.0 cell (publishes_nothing old new word.Load event cell t.0 tt m t.1) }
count_step old new (phase.Look name owner) event cell s m = let t = step_shows old new (word.Look owner) event cell s m in record { next = t.0; shows = t.2; count = same_count t.0 cell (publishes_nothing old new (word.Look owner) event cell t.0 tt m t.1) }
count_step old new (phase.Seek owner seeking) event cell s m = let t = step_shows old new (word.Look owner) event cell s m in record { next = t.0; shows = t.2; count = same_count t.0 cell (publishes_nothing old new (word.Look owner) event cell t.0 tt m t.1) }
count_step old new (phase.Gain owner seeking) event cell s m = let t = step_shows old new (word.Raise owner) event cell s m in record { next = t.0; shows = t.2; count = same_count t.0 cell (publishes_nothing old new (word.Raise owner) event cell t.0 tt m t.1) }
count_step old new (phase.Raise name owner) event cell s m = let t = step_shows old new (word.Raise owner) event cell s m in record { next = t.0; shows = t.2; count = same_count t.0 cell (publishes_nothing old new (word.Raise owner) event cell t.0 tt m t.1) }
count_step old new (phase.Note name owner) event cell s m = let t = step_shows old new (word.Note owner) event cell s m in record { next = t.0; shows = t.2; count = same_count t.0 cell (publishes_nothing old new (word.Note owner) event cell t.0 tt m t.1) }
count_step old new (phase.Probe version keeping) event cell s m = let t = step_shows old new word.Probe event cell s m in record { next = t.0; shows = t.2; count = same_count t.0 cell (publishes_nothing old new word.Probe event cell t.0 tt m t.1) }
count_step old new (phase.Prepare version keeping) event cell s m = let t = step_shows old new (word.Prepare version) event cell s m in record { next = t.0; shows = t.2; count = same_count t.0 cell (publishes_nothing old new (word.Prepare version) event cell t.0 tt m t.1) }
count_step old new (phase.Swap keeping) event cell s m = let t = step_shows old new word.Swap event cell s m in record { next = t.0; shows = t.2; count = count_swap old new event cell t.0 m t.1 }
count_step old new (phase.Settle keeping) event cell s m = let t = step_shows old new word.Settle event cell s m in record { next = t.0; shows = t.2; count = same_count t.0 cell (publishes_nothing old new word.Settle event cell t.0 tt m t.1) }
count_step old new (phase.Keep given keeping) event cell s m = let t = step_shows old new word.Load event cell s m in record { next = t.0; shows = t.2; count = same_count t.0 cell (publishes_nothing old new word.Load event cell t.0 tt m t.1) }
count_step old new (phase.Enter given kept keeping) event cell s m = let t = step_shows old new (word.Note kept) event cell s m in record { next = t.0; shows = t.2; count = same_count t.0 cell (publishes_nothing old new (word.Note kept) event cell t.0 tt m t.1) }
count_step old new (phase.Release owner for) event cell s m = let t = step_shows old new (word.Release owner) event cell s m in record { next = t.0; shows = t.2; count = same_count t.0 cell (publishes_nothing old new (word.Release owner) event cell t.0 tt m t.1) }
count_step old new (phase.Bury owner for) event cell s m = let t = step_shows old new (word.Bury owner) event cell s m in record { next = t.0; shows = t.2; count = same_count t.0 cell (publishes_nothing old new (word.Bury owner) event cell t.0 tt m t.1) }
count_step old new (phase.Fade owner number for) event cell s m = let t = step_shows old new (word.Fade owner) event cell s m in record { next = t.0; shows = t.2; count = same_count t.0 cell (publishes_nothing old new (word.Fade owner) event cell t.0 tt m t.1) }
count_step old new (phase.Reset owner number for) event cell s m = let t = step_shows old new (word.Reset owner) event cell s m in record { next = t.0; shows = t.2; count = same_count t.0 cell (publishes_nothing old new (word.Reset owner) event cell t.0 tt m t.1) }
count_step old new (phase.Free owner number for) event cell s m = let t = step_shows old new (word.Free owner) event cell s m in record { next = t.0; shows = t.2; count = same_count t.0 cell (publishes_nothing old new (word.Free owner) event cell t.0 tt m t.1) }

-- calls that are no updates have nothing in hand that goes by the last number
or_false : (a b : Bool) → (a || b) ≡ false → (a ≡ false) × (b ≡ false)
or_false true b e = absurd (let wrong = e in cc)
or_false false b e = (refl, e)

same_for : (for : Purpose) (one two from : ℕ) (stays : Stays) → is_for_update for ≡ false → for_uses one from stays for ≡ for_uses two from stays for
same_for purpose.Drop one two from stays e = refl
same_for (purpose.Sent sending owners) one two from stays e = refl
same_for (purpose.Publish keeping kept entry) one two from stays e = absurd (let wrong = e in cc)
same_for (purpose.Oldest head kept entry leaving) one two from stays e = absurd (let wrong = e in cc)
same_for (purpose.Leaves head kept entry leaving) one two from stays e = absurd (let wrong = e in cc)

same_phase : (at : Phase) (one two from : ℕ) (stays : Stays) → updates at ≡ false → phase_uses one from stays at ≡ phase_uses two from stays at
same_phase (phase.Load name) one two from stays e = refl
same_phase (phase.Look name owner) one two from stays e = refl
same_phase (phase.Seek owner seeking) one two from stays e = refl
same_phase (phase.Gain owner seeking) one two from stays e = refl
same_phase (phase.Raise name owner) one two from stays e = refl
same_phase (phase.Note name owner) one two from stays e = refl
same_phase (phase.Probe version keeping) one two from stays e = refl
same_phase (phase.Prepare version keeping) one two from stays e = refl
same_phase (phase.Swap keeping) one two from stays e = refl
same_phase (phase.Settle keeping) one two from stays e = refl
same_phase (phase.Keep given keeping) one two from stays e = refl
same_phase (phase.Enter given kept keeping) one two from stays e = absurd (let wrong = e in cc)
same_phase (phase.Release owner for) one two from stays e = ap (λ ss. use_of owner holds ∷ ss) (same_for for one two from stays e)
same_phase (phase.Bury owner for) one two from stays e = ap (λ ss. use_of owner buries ∷ ss) (same_for for one two from stays e)
same_phase (phase.Fade owner None for) one two from stays e = ap (λ ss. use_of owner weakly ∷ ss) (same_for for one two from stays e)
same_phase (phase.Fade owner (Some number) for) one two from stays e = ap (λ ss. use_of owner fades ∷ ss) (same_for for one two from stays e)
same_phase (phase.Reset owner number for) one two from stays e = ap (λ ss. use_of owner resets ∷ ss) (same_for for one two from stays e)
same_phase (phase.Free owner number for) one two from stays e = ap (λ ss. use_of owner frees ∷ ss) (same_for for one two from stays e)

same_calls : (calls : List UnderWay) (one two from : ℕ) (stays : Stays) → any_update calls ≡ false → call_uses one from stays calls ≡ call_uses two from stays calls
same_calls [] one two from stays e = refl
same_calls (c ∷ cs) one two from stays e =
    let parts = or_false (updates c.phase) (any_update cs) e in
    ap (λ ss. ss ++ call_uses one from stays cs) (same_phase c.phase one two from stays parts.0) ∙ ap (λ ss. phase_uses two from stays c.phase ++ ss) (same_calls cs one two from stays parts.1)

-- the call apart takes a step
swap_is : (at : Phase) → (swaps_now at ≡ 0) ⊎ ((updates at ≡ true) × (swaps_now at ≡ 1) × ((one two from : ℕ) (stays : Stays) → phase_uses one from stays at ≡ phase_uses two from stays at))
swap_is (phase.Load name) = inl refl
swap_is (phase.Look name owner) = inl refl
swap_is (phase.Seek owner seeking) = inl refl
swap_is (phase.Gain owner seeking) = inl refl
swap_is (phase.Raise name owner) = inl refl
swap_is (phase.Note name owner) = inl refl
swap_is (phase.Probe version keeping) = inl refl
swap_is (phase.Prepare version keeping) = inl refl
swap_is (phase.Swap keeping) = inr (refl, refl, (λ one two from stays. refl))
swap_is (phase.Settle keeping) = inl refl
swap_is (phase.Keep given keeping) = inl refl
swap_is (phase.Enter given kept keeping) = inl refl
swap_is (phase.Release owner for) = inl refl
swap_is (phase.Bury owner for) = inl refl
swap_is (phase.Fade owner number for) = inl refl
swap_is (phase.Reset owner number for) = inl refl
swap_is (phase.Free owner number for) = inl refl

-- the same in hand, by the number that is last behind a step
uses_after : (words : Zones) (names weaks : List Named) (store : Store) (calls : List UnderWay) (at : Phase) (o : Open words names weaks store calls (On at)) (later : ℕ) → later ≡ o.last + swaps_now at
    → InUse words.owners (phase_uses later o.from (stays_of store) at ++ rest_uses later o.from names weaks store calls (updates at || any_update calls))
uses_after words names weaks store calls at o later is =
    elim (swap_is at) [
      | inl none ↦ (let e : o.last ≡ later = omega (arith, is, none) in subst (λ l. InUse words.owners (phase_uses l o.from (stays_of store) at ++ rest_uses l o.from names weaks store calls (updates at || any_update calls))) e o.in_use)
      | inr swap ↦ (
          let e = swap.2 o.last later o.from (stays_of store) in
          let f = same_calls calls o.last later o.from (stays_of store) (o.alone swap.0) in
          subst (λ ss. InUse words.owners (ss ++ rest_uses later o.from names weaks store calls (updates at || any_update calls))) e
          (subst (λ ss. InUse words.owners (phase_uses o.last o.from (stays_of store) at ++ (both_uses names weaks ++ (store_left o.from store (updates at || any_update calls) ++ ss)))) f o.in_use)
          )
    ]

step_open_by : (words new : Zones) (names weaks : List Named) (store : Store) (calls : List UnderWay) (at : Phase) (event : WordEvent) → Makes words (word_step at) event new → Open words names weaks store calls (On at) → Open new names weaks store calls (after new at event)
step_open_by words new names weaks store calls at event m o =
    let c = count_step words new at event o.cell o.shows m in
    let later : ℕ = o.last + swaps_now at in
    let rest = rest_uses later o.from names weaks store calls (updates at || any_update calls) in
    let w = went words new at event later o.from (stays_of store) rest o.still
    (λ none number found. (let is = latest_number words o.cell o.shows number found in let l = o.shows.numbers.last in omega (arith, is, l, o.counted, none)))
    (λ owner number place held. (let found = owner_finds new c.next owner number place c.shows held in (found.0, owner_is_given new c.next owner number place c.shows held ∙ found.2))) m
    (uses_after words names weaks store calls at o later refl) in
    record {
      cell = c.next;
      shows = c.shows;
      last = later;
      from = o.from;
      settled = o.settled;
      counted = omega (arith, c.count, o.counted);
      swapped = omega (arith, w.swapped, o.swapped);
      kept_count = o.kept_count;
      kept_from = o.kept_from;
      shut = o.shut;
      alone = λ e. o.alone (sym w.update ∙ e);
      one = o.one;
      still = w.still;
      stills = o.stills;
      in_use = subst (λ b. InUse new.owners (kind_uses later o.from (stays_of store) (after new at event) ++ rest_uses later o.from names weaks store calls (b || any_update calls))) (sym w.update) w.in_use;
      publisher = λ e f. elim (cases_Bool (publishes_in at)) [
        | inl it ↦ (w.publisher e).0 it
        | inr other ↦ (w.publisher e).1 other ∙ o.publisher other f
      ];
      names_once = λ name. (let n = o.names_once name in let same = w.names name in omega (arith, n, same));
      weak_once = λ name. (let n = o.weak_once name in let same = w.weak_names name in omega (arith, n, same));
      calls_once = o.calls_once;
    }

pub step_open : (words new : Zones) (names weaks : List Named) (store : Store) (calls : List UnderWay) (at : Phase) (progress : Progress) → step_once words at ≡ Some (progress, new) → Open words names weaks store calls (On at) → Open new names weaks store calls progress
step_open words new names weaks store calls at progress e o =
    let one = step_by words new at progress (made words (word_step at)) refl e in
    subst (λ p. Open new names weaks store calls p) one.goes (step_open_by words new names weaks store calls at one.event one.makes o)

many_by : (names weaks : List Named) (store : Store) (calls : List UnderWay) (words : Zones) (at : Phase) (more : Zones → Phase → Progress × Zones) (o : Option (Progress × Zones))
    → ((words : Zones) (at : Phase) → Open words names weaks store calls (On at) → Open (more words at).1 names weaks store calls (more words at).0)
    → Open words names weaks store calls (On at) → step_once words at ≡ o → Open (go_on more words at o).1 names weaks store calls (go_on more words at o).0
many_by names weaks store calls words at more None all it e = it
many_by names weaks store calls words at more (Some (On next, between)) all it e = all between next (step_open words between names weaks store calls at (On next) e it)
many_by names weaks store calls words at more (Some (Done end, between)) all it e = step_open words between names weaks store calls at (Done end) e it

pub many_open : (left : ℕ) (names weaks : List Named) (store : Store) (calls : List UnderWay) (words : Zones) (at : Phase) → Open words names weaks store calls (On at) → Open (steps_up_to left words at).1 names weaks store calls (steps_up_to left words at).0
unfolding steps_up_to
many_open zero names weaks store calls words at it = it
many_open (suc left) names weaks store calls words at it = many_by names weaks store calls words at (steps_up_to left) (step_once words at) (many_open left names weaks store calls) it refl
