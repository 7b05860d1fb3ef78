-- What the words show of the versions that were published: they are the replays of the updates that lines sent in turn.
use Rattle.std.proofs.Common.{◌≡◌, refl, sym, ap, ◌∙◌, subst, ℕ, zero, suc, ◌+◌, ◌<◌, ◌≤◌, ◌⊎◌, inl, inr, List, [], ◌∷◌, ◌++◌, length, map, take, arith, Option, Some, None, length-append}
use Rattle.std.specs.Prelude.{◌==◌, unwrap_or}
use Rattle.std.specs.List.{slice_get}
use Rattle.std.proofs.lemmas.Bool.{cases_Bool}
use Rattle.std.proofs.lemmas.List.{map-append, take-append-le, take_all}
use Rattle.std.proofs.lemmas.Option.{slice_get_within}
use Rattle.cell_core.proofs.RunShows.{step_runs}
use Rattle.cell_core.proofs.StepShows.{step_shows}
use Rattle.cell_core.proofs.PublishedLemmas.{OfWeak, weak_quiet}
use Rattle.cell_core.specs.Cell.{Cell, CellStep, Runs, start as cell_start}
use Rattle.cell_core.specs.Shows.{Shows, ShowsStep}
use Rattle.cell_core.specs.WordSteps.{Makes}
use Rattle.cell_core.specs.declared.words.Publisher.TheVariants.{Swapping}
use Rattle.cell_core.specs.declared.words.Version.{Version}
use Rattle.cell_core.specs.declared.words.WordEvent.{WordEvent}
use Rattle.cell_core.specs.declared.words.WordStep.{WordStep}
use Rattle.cell_core.specs.declared.words.WordStep.TheVariants as word
use Rattle.dns_rdata.specs.Record.{Record}
use Rattle.serve_core.specs.Heading.{heading_of_update}
use Rattle.serve_core.specs.declared.heading.Heading.{Heading}
use Rattle.dns_message.specs.declared.query.Parsed.TheVariants as parsed
use Rattle.dns_message.specs.declared.update.Update.{Update as DynamicUpdate}
use Rattle.dns_message.specs.Request.{reads}
use Rattle.update_core.specs.Act.{act, replay}
use Rattle.zone_tree.specs.Version.{Version as Numbered, KnowsChanges}
use Rattle.world_run.specs.Numbered.{first_version}
use Rattle.world_laws.specs.Replays.{IsAccepted, AreReplays}
use Rattle.cell_core.specs.Words.{State, version_in}

-- what stands at a place of a list with one more, and where
placed : {X : Type 0} (xs : List X) (x y : X) (k : ℕ) → slice_get (xs ++ x ∷ []) k ≡ Some y → (slice_get xs k ≡ Some y) ⊎ ((k ≡ length xs) × (x ≡ y))
placed [] x y zero e = inr (refl, (let f = e in cc))
placed [] x y (suc k) e = absurd (let wrong = e in cc)
placed (z ∷ xs) x y zero e = inl e
placed (z ∷ xs) x y (suc k) e = elim (placed xs x y k e) [ inl old ↦ inl old | inr new ↦ inr (omega (arith, new.0), new.1) ]

-- a replay with one update more
pub replay_more : (zone : List Record) (us : List DynamicUpdate) (u : DynamicUpdate) → replay zone (us ++ u ∷ []) ≡ unwrap_or (act (replay zone us) u) (replay zone us)
replay_more zone [] u = refl
replay_more zone (one ∷ us) u = replay_more (unwrap_or (act zone one) zone) us u

-- what an update is about to make of the versions that there are
pub record MakesNext (S : List ℕ → Type 0) (first : List Record) (us : List DynamicUpdate) (version : Numbered) : Type 0 where
  pub update : DynamicUpdate
  pub accepted : IsAccepted S (replay first us) version.zone update
  pub number : version.number ≡ length us + 1
  pub knows : KnowsChanges (replay first us) version

taken_less : {X : Type 0} (us : List X) (u : X) (k : ℕ) → k ≤ length us → take k (us ++ u ∷ []) ≡ take k us
taken_less us u k less = take-append-le k us (u ∷ []) less

replays_more : (S : List ℕ → Type 0) (first : List Record) (published : List Numbered) (us : List DynamicUpdate) (version : Numbered) (n : MakesNext S first us version) → AreReplays S first published us → AreReplays S first (published ++ version ∷ []) (us ++ n.update ∷ [])
replays_more S first published us version n r = record {
  counted = omega (arith, r.counted, length-append published (version ∷ []), length-append us (n.update ∷ []));
  versions = λ k other e. elim (placed published version other k e) [
    | inl old ↦ (
        let is = r.versions k other old in
        let less : k ≤ length us = omega (arith, slice_get_within published k other old, r.counted) in
        (is.0, is.1 ∙ ap (replay first) (sym (taken_less us n.update k less)))
        )
    | inr new ↦ (
        let at : k ≡ length us + 1 = omega (arith, new.0, r.counted) in
        let whole : take k (us ++ n.update ∷ []) ≡ us ++ n.update ∷ [] = take_all k (us ++ n.update ∷ []) (omega (arith, at, length-append us (n.update ∷ []))) in
        let made : replay first (us ++ n.update ∷ []) ≡ version.zone = replay_more first us n.update ∙ ap (λ o. unwrap_or o (replay first us)) n.accepted.made in
        (ap (λ (v : Numbered). v.number) (sym new.1) ∙ (n.number ∙ sym at), ap (λ (v : Numbered). v.zone) (sym new.1) ∙ sym (ap (replay first) whole ∙ made))
        )
  ];
  changes = λ k other e. elim (placed published version other (k + 1) e) [
    | inl old ↦ (
        let less : k ≤ length us = omega (arith, slice_get_within published (k + 1) other old, r.counted) in
        subst (λ l. KnowsChanges (replay first l) other) (sym (taken_less us n.update k less)) (r.changes k other old)
        )
    | inr new ↦ (
        let same : us ≡ take k (us ++ n.update ∷ []) = sym (taken_less us n.update k (omega (arith, new.0, r.counted)) ∙ take_all k us (omega (arith, new.0, r.counted))) in
        subst (λ l. KnowsChanges (replay first l) other) same (subst (λ v. KnowsChanges (replay first us) v) new.1 n.knows)
        )
  ];
  accepted = λ k other e. elim (placed us n.update other k e) [
    | inl old ↦ (
        let is = r.accepted k other old in
        let less : k ≤ length us = omega (arith, slice_get_within us k other old) in
        (is.0, subst (λ l. IsAccepted S (replay first l) is.0 other) (sym (taken_less us n.update k less)) is.1)
        )
    | inr new ↦ (
        let same : us ≡ take k (us ++ n.update ∷ []) = sym (taken_less us n.update k (omega (arith, new.0)) ∙ take_all k us (omega (arith, new.0))) in
        (version.zone, subst (λ l. IsAccepted S (replay first l) version.zone other) same (subst (λ u. IsAccepted S (replay first us) version.zone u) new.1 n.accepted))
        )
  ];
}

-- lines by their places: what each sends as an update, and how many were played; and which of them may have begun the update that is
-- under way, by its header
pub record Script : Type 1 where
  pub sends : ℕ → List ℕ → Type 0
  pub top : ℕ
  pub by : ℕ → Heading → Type 0

abbrev pub scripted : (ℕ → List ℕ → Type 0) → ℕ → (ℕ → Heading → Type 0) → Script
scripted sends top by = record { sends = sends; top = top; by = by }

-- whichever of them it may be
abbrev pub script : (ℕ → List ℕ → Type 0) → ℕ → Script
script sends top = scripted sends top (λ place head. Unit {0})

-- one of them sends it
abbrev pub Ever : Script → List ℕ → Type 0
Ever S request = (place : ℕ) × S.sends place request

-- an update, and the place of the line that sent it
pub record Placed : Type 0 where
  pub place : ℕ
  pub update : DynamicUpdate

abbrev pub updates_in : List Placed → List DynamicUpdate
updates_in us = map (λ (one : Placed). one.update) us

-- a line was played, behind those that sent the updates so far
pub record IsFresh (S : Script) (us : List Placed) (place : ℕ) : Type 0 where
  pub played : place < S.top
  pub last : (k : ℕ) (one : Placed) → slice_get us k ≡ Some one → one.place < place

-- what the update of such a line is about to make of the versions that there are
pub record IsNext (S : Script) (first : List Record) (us : List Placed) (version : Numbered) : Type 0 where
  pub place : ℕ
  pub fresh : IsFresh S us place
  pub makes : MakesNext (S.sends place) first (updates_in us) version
  pub mine : S.by place (heading_of_update makes.update)

abbrev pub placed_next : (S : Script) (first : List Record) (us : List Placed) (version : Numbered) → IsNext S first us version → Placed
placed_next S first us version n = record { place = n.place; update = n.makes.update }

ever_makes : (S : Script) (place : ℕ) (first : List Record) (us : List DynamicUpdate) (version : Numbered) → MakesNext (S.sends place) first us version → MakesNext (Ever S) first us version
ever_makes S place first us version m =
    let a = m.accepted in
    record {
      update = m.update;
      accepted = record { request = a.request; sent = (place, a.sent); read = a.read; let_through = a.let_through; made = a.made; changes = a.changes };
      number = m.number;
      knows = m.knows;
    }

-- a line sends a request that reads as this update
abbrev pub SendsAs : Script → Placed → Type 0
SendsAs S one = (request : List ℕ) × S.sends one.place request × (reads request ≡ parsed.Update one.update)

-- each update was sent by the line of its place, and the places rise
pub record AreInTurn (S : Script) (us : List Placed) : Type 0 where
  pub sends : (k : ℕ) (one : Placed) → slice_get us k ≡ Some one → SendsAs S one
  pub rises : (k : ℕ) (one next : Placed) → slice_get us k ≡ Some one → slice_get us (k + 1) ≡ Some next → one.place < next.place
  pub played : (k : ℕ) (one : Placed) → slice_get us k ≡ Some one → one.place < S.top

in_turn_more : (S : Script) (us : List Placed) (x : Placed) → IsFresh S us x.place → SendsAs S x → AreInTurn S us → AreInTurn S (us ++ x ∷ [])
in_turn_more S us x fresh sent t = record {
  sends = λ k one e. elim (placed us x one k e) [ inl old ↦ t.sends k one old | inr new ↦ subst (SendsAs S) new.1 sent ];
  rises = λ k one next e f. elim (placed us x next (k + 1) f) [
    | inl old ↦ elim (placed us x one k e) [
      | inl here ↦ t.rises k one next here old
      | inr there ↦ absurd (let l = slice_get_within us (k + 1) next old in omega (arith, l, there.0))
    ]
    | inr new ↦ elim (placed us x one k e) [
      | inl here ↦ subst (λ (n : Placed). one.place < n.place) new.1 (fresh.last k one here)
      | inr there ↦ absurd (omega (arith, new.0, there.0))
    ]
  ];
  played = λ k one e. elim (placed us x one k e) [ inl old ↦ t.played k one old | inr new ↦ subst (λ (n : Placed). n.place < S.top) new.1 fresh.played ];
}

abbrev pub Zones : Type 0
Zones = State Numbered

-- the words show a cell that is reached, whose versions are the replays of updates
pub record Tells (S : Script) (first : List Record) (words : Zones) (us : List Placed) : Type 0 where
  pub cell : Cell Numbered
  pub steps : List (CellStep Numbered × Option ℕ)
  pub runs : Runs (cell_start (first_version first)) steps cell
  pub shows : Shows words cell
  pub replays : AreReplays (Ever S) first cell.published (updates_in us)
  pub in_turn : AreInTurn S us

runs_on : (one two three : Cell Numbered) (run more : List (CellStep Numbered × Option ℕ)) → Runs one run two → Runs two more three → Runs one (run ++ more) three
runs_on one two three [] more r s = subst (λ c. Runs c more three) r s
runs_on one two three ((step, given) ∷ run) more r s = (r.0, r.1, runs_on r.0 two three run more r.2 s)

-- a step other than a swap
abbrev pub NoSwap : WordStep Numbered → Type 0
NoSwap word.Load = Unit {0}
NoSwap word.Probe = Unit {0}
NoSwap (word.Prepare version) = Unit {0}
NoSwap word.Swap = ⊥
NoSwap word.Settle = Unit {0}
NoSwap (word.Release owner) = Unit {0}
NoSwap (word.Bury owner) = Unit {0}
NoSwap (word.Free owner) = Unit {0}
NoSwap (word.Look owner) = Unit {0}
NoSwap (word.Raise owner) = Unit {0}
NoSwap (word.Note owner) = Unit {0}
NoSwap (word.Fade owner) = Unit {0}
NoSwap (word.Reset owner) = Unit {0}

-- it publishes nothing
load_publishes : (words new : Zones) (event : WordEvent) (cell later : Cell Numbered) → Makes {T = Numbered} words word.Load event new → ShowsStep {T = Numbered} words word.Load event cell later → later.published ≡ cell.published
load_publishes words new event cell later (number, found, few, told_is, new_is) s =
    let shown = subst (λ e. ShowsStep {T = Numbered} words word.Load e cell later) told_is s in
    ap (λ (c : Cell Numbered). c.published) shown.3

bury_publishes : (words new : Zones) (owner : ℕ) (event : WordEvent) (cell later : Cell Numbered) → Makes {T = Numbered} words (word.Bury owner) event new → ShowsStep {T = Numbered} words (word.Bury owner) event cell later → later.published ≡ cell.published
bury_publishes words new owner event cell later (place, there, use_of, found, m) s =
    elim (cases_Bool (there.shares == 0)) [
      | inl none ↦ (
          let h = rw none at m in
          let shown = subst (λ e. ShowsStep {T = Numbered} words (word.Bury owner) e cell later) h.2 s in
          ap (λ (c : Cell Numbered). c.published) shown.4
          )
      | inr some ↦ (
          let h = rw some at m in
          let shown = subst (λ e. ShowsStep {T = Numbered} words (word.Bury owner) e cell later) h.0 s in
          ap (λ (c : Cell Numbered). c.published) shown
          )
    ]

weak_publishes : (words : Zones) (step : WordStep Numbered) (event : WordEvent) (cell later : Cell Numbered) → OfWeak step → ShowsStep words step event cell later → later.published ≡ cell.published
weak_publishes words step event cell later of s = (weak_quiet words step event cell later of s).0

pub publishes_nothing : (words new : Zones) (step : WordStep Numbered) (event : WordEvent) (cell later : Cell Numbered) → NoSwap step → Makes words step event new → ShowsStep words step event cell later → later.published ≡ cell.published
publishes_nothing words new word.Load event cell later apart m s = load_publishes words new event cell later m s
publishes_nothing words new word.Probe event cell later apart m s = ap (λ (c : Cell Numbered). c.published) s
publishes_nothing words new (word.Prepare version) event cell later apart m s = ap (λ (c : Cell Numbered). c.published) s
publishes_nothing words new word.Swap event cell later apart m s = absurd apart
publishes_nothing words new word.Settle event cell later apart m s = ap (λ (c : Cell Numbered). c.published) s
publishes_nothing words new (word.Release owner) event cell later apart m s = ap (λ (c : Cell Numbered). c.published) s.3.2
publishes_nothing words new (word.Bury owner) event cell later apart m s = bury_publishes words new owner event cell later m s
publishes_nothing words new (word.Free owner) event cell later apart m s = ap (λ (c : Cell Numbered). c.published) s
publishes_nothing words new (word.Look owner) event cell later apart m s = weak_publishes words (word.Look owner) event cell later tt s
publishes_nothing words new (word.Raise owner) event cell later apart m s = weak_publishes words (word.Raise owner) event cell later tt s
publishes_nothing words new (word.Note owner) event cell later apart m s = weak_publishes words (word.Note owner) event cell later tt s
publishes_nothing words new (word.Fade owner) event cell later apart m s = weak_publishes words (word.Fade owner) event cell later tt s
publishes_nothing words new (word.Reset owner) event cell later apart m s = weak_publishes words (word.Reset owner) event cell later tt s

pub tells_same : (S : Script) (first : List Record) (words new : Zones) (us : List Placed) (step : WordStep Numbered) (event : WordEvent) → NoSwap step → Makes words step event new → Tells S first words us → Tells S first new us
tells_same S first words new us step event apart m t =
    let shown = step_shows words new step event t.cell t.shows m in
    let short = step_runs words step event t.cell shown.0 shown.1 in
    record {
      cell = shown.0;
      steps = t.steps ++ short.steps;
      runs = runs_on (cell_start (first_version first)) t.cell shown.0 t.steps short.steps t.runs short.runs;
      shows = shown.2;
      replays = subst (λ p. AreReplays (Ever S) first p (updates_in us)) (sym (publishes_nothing words new step event t.cell shown.0 apart m shown.1)) t.replays;
      in_turn = t.in_turn;
    }

-- an update's version lies in the slot that the publisher is to swap in
pub record SwapsNext (S : Script) (first : List Record) (us : List Placed) (words : Zones) : Type 0 where
  pub place : ℕ
  pub number : ℕ
  pub version : Numbered
  pub publisher : words.publisher ≡ Swapping place
  pub there : version_in words place ≡ Some (record { number = number; value = version })
  pub is_next : IsNext S first us version

same_place : (words : Zones) (one two : ℕ) → words.publisher ≡ Swapping one → words.publisher ≡ Swapping two → one ≡ two
same_place words one two a b = let e : Swapping one ≡ Swapping two = sym a ∙ b in cc

abbrev value_or : Numbered → Option (Version Numbered) → Numbered
value_or other None = other
value_or other (Some version) = version.value

same_value : (words : Zones) (place number other : ℕ) (one two : Numbered) → version_in words place ≡ Some (record { number = number; value = one }) → version_in words place ≡ Some (record { number = other; value = two }) → one ≡ two
same_value words place number other one two a b =
    ap (value_or one) (sym a ∙ b)

pub tells_swapped : (S : Script) (first : List Record) (words new : Zones) (us : List Placed) (event : WordEvent) → (n : SwapsNext S first us words) → Makes {T = Numbered} words word.Swap event new → Tells S first words us → Tells S first new (us ++ placed_next S first us n.version n.is_next ∷ [])
unfolding ever_makes
tells_swapped S first words new us event n m t =
    let shown = step_shows words new word.Swap event t.cell t.shows m in
    let short = step_runs {T = Numbered} words word.Swap event t.cell shown.0 shown.1 in
    let (place, last, is, within, number, told_is, new_is) = m in
    let s = subst (λ e. ShowsStep {T = Numbered} words word.Swap e t.cell shown.0) told_is shown.1 in
    let here : s.1.0 ≡ n.place = same_place words s.1.0 n.place s.1.2 n.publisher in
    let value : n.version ≡ s.0 = same_value words n.place n.number s.1.1 n.version s.0 n.there (ap (version_in words) (sym here) ∙ s.1.3) in
    let published : shown.0.published ≡ t.cell.published ++ n.version ∷ [] = ap (λ (c : Cell Numbered). c.published) s.2.3 ∙ ap (λ v. t.cell.published ++ v ∷ []) (sym value) in
    record {
      cell = shown.0;
      steps = t.steps ++ short.steps;
      runs = runs_on (cell_start (first_version first)) t.cell shown.0 t.steps short.steps t.runs short.runs;
      shows = shown.2;
      replays = subst (λ p. AreReplays (Ever S) first p (updates_in (us ++ placed_next S first us n.version n.is_next ∷ []))) (sym published)
          (subst (λ l. AreReplays (Ever S) first (t.cell.published ++ n.version ∷ []) l) (sym (map-append (λ (one : Placed). one.update) us (placed_next S first us n.version n.is_next ∷ [])))
          (replays_more (Ever S) first t.cell.published (updates_in us) n.version (ever_makes S n.is_next.place first (updates_in us) n.version n.is_next.makes) t.replays));
      in_turn = (let a = n.is_next.makes.accepted in in_turn_more S us (placed_next S first us n.version n.is_next) n.is_next.fresh (a.request, a.sent, a.read) t.in_turn);
    }
