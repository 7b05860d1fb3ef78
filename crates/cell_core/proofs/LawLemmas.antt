-- What runs of a cell keep.
use Rattle.std.proofs.Common.{◌≡◌, refl, sym, ap, ◌∙◌, subst, ℕ, zero, suc, ◌+◌, ◌<◌, true, false, inl, inr, List, [], ◌∷◌, ◌++◌, length, arith, append_assoc, length-append, true≢false}
use Rattle.std.specs.Prelude.{Option, Some, ◌==◌}
use Rattle.std.specs.List.{slice_get}
use Rattle.std.proofs.lemmas.List.{append-nil}
use Rattle.std.proofs.lemmas.Bool.{cases_Bool}
use Rattle.std.proofs.lemmas.Bool.Decides.{eqb_tells}
use Rattle.cell_core.specs.Cell.{Cell, CellStep, IsLast, Steps, Runs, IsReached, start, with_strong, without_strong, with_weak, without_weak, with_value, with_buried, EachFollows}
use Rattle.cell_core.specs.Cell.CellStep.{Load, Publish, Clone, Drop, Bury, Down, Up, Fade}
use Rattle.cell_core.specs.Loaded.{loaded, IsLoad, WasLast}
use Rattle.cell_core.proofs.CountLemmas.{one_more_some, one_less_some}

-- more may be published and buried, and nothing less
pub record Grows {T : Type 0} (before after : Cell T) : Type 0 where
  pub published : (more : List T) × (after.published ≡ before.published ++ more)
  pub buried : (k : ℕ) → before.buried k ≡ true → after.buried k ≡ true

grows_not : {T : Type 0} (cell : Cell T) → Grows cell cell
grows_not cell = record { published = ([], sym (append-nil cell.published)); buried = λ k h. h }

-- a step publishes and buries, and takes nothing back
step_grows : {T : Type 0} (before : Cell T) (step : CellStep T) (given : Option ℕ) (after : Cell T) → Steps before step given after → Grows before after
step_grows before Load given after s = subst (Grows before) (sym s.3) (record { published = ([], sym (append-nil before.published)); buried = λ k h. h })
step_grows before (Publish value) given after s = subst (Grows before) (sym s.3) (record { published = (value ∷ [], refl); buried = λ k h. h })
step_grows before (Clone k) given after s = subst (Grows before) (sym s.2) (record { published = ([], sym (append-nil before.published)); buried = λ k h. h })
step_grows before (Drop k) given after s = subst (Grows before) (sym s.2) (record { published = ([], sym (append-nil before.published)); buried = λ k h. h })
step_grows before (Bury k) given after s =
    subst (Grows before) (sym s.4)
    (record { published = ([], sym (append-nil before.published)); buried = λ j h. elim (cases_Bool (j == k)) [ inl same ↦ rw same refl | inr other ↦ rw other h ] })
step_grows before (Down k) given after s = subst (Grows before) (sym s.2) (record { published = ([], sym (append-nil before.published)); buried = λ k h. h })
step_grows before (Up k) given after s =
    elim (cases_Bool (before.buried k)) [
      | inl gone ↦ (let up = rw gone at s.1 in subst (Grows before) (sym up.1) (grows_not before))
      | inr there ↦ (let up = rw there at s.1 in subst (Grows before) (sym up.1) (record { published = ([], sym (append-nil before.published)); buried = λ k h. h }))
    ]
step_grows before (Fade k) given after s = subst (Grows before) (sym s.2) (record { published = ([], sym (append-nil before.published)); buried = λ k h. h })

-- so does a run
pub run_grows : {T : Type 0} (before after : Cell T) (run : List (CellStep T × Option ℕ)) → Runs before run after → Grows before after
run_grows before after [] r = subst (Grows before) (sym r) (grows_not before)
run_grows before after ((step, given) ∷ more) r =
    let first = step_grows before step given r.0 r.1 in
    let rest = run_grows r.0 after more r.2 in
    record {
      published = (first.published.0 ++ rest.published.0, rest.published.1 ∙ ap (λ l. l ++ rest.published.0) first.published.1 ∙ append_assoc before.published first.published.0 rest.published.0);
      buried = λ k h. rest.buried k (first.buried k h);
    }

-- what stands at a place stays there behind more
pub get_before_more : {T : Type 0} (values more : List T) (k : ℕ) → k < length values → slice_get (values ++ more) k ≡ slice_get values k
get_before_more [] more k h = absurd (omega arith)
get_before_more (value ∷ values) more zero h = refl
get_before_more (value ∷ values) more (suc k) h = get_before_more values more k (omega arith)

pub run_keeps_values : {T : Type 0} (before after : Cell T) (run : List (CellStep T × Option ℕ)) → Runs before run after → (k : ℕ) → k < length before.published → slice_get after.published k ≡ slice_get before.published k
run_keeps_values before after run r k h =
    let grown = (run_grows before after run r).published in
    ap (λ l. slice_get l k) grown.1 ∙ get_before_more before.published grown.0 k h

-- a load of a run, at its place
pub run_loads : {T : Type 0} (before after : Cell T) (run : List (CellStep T × Option ℕ)) (place : ℕ) → Runs before run after → IsLoad run place → (number : ℕ) × (loaded run place ≡ Some number) × WasLast before run after place number
run_loads before after [] place r l = absurd (let wrong = l in cc)
run_loads before after ((step, given) ∷ more) zero r l =
    let is : step ≡ Load = (let e = l in cc) in
    let made = rw is at r.1 in
    let within : made.0 < length before.published = omega (arith, made.1) in
    (made.0, made.2, record { between = before; made = refl; last = made.1; value = run_keeps_values before after ((step, given) ∷ more) r made.0 within })
run_loads before after ((step, given) ∷ more) (suc place) r l =
    let found = run_loads r.0 after more place r.2 l in
    let was = found.2 in
    (found.0, found.1, record { between = was.between; made = (r.0, r.1, was.made); last = was.last; value = was.value })

-- what holds of each cell that is reached
pub record Sound {T : Type 0} (cell : Cell T) : Type 0 where
  pub owned_unburied : (k : ℕ) → 0 < cell.strong k → cell.buried k ≡ false
  pub buried_published : (k : ℕ) → cell.buried k ≡ true → k + 1 < length cell.published
  pub strong_published : (k : ℕ) → 0 < cell.strong k → k < length cell.published
  pub weak_published : (k : ℕ) → 0 < cell.weak k → k < length cell.published

-- one strong owner more of a published number that isn't buried
strong_sound : {T : Type 0} (cell : Cell T) (k : ℕ) → Sound cell → k < length cell.published → cell.buried k ≡ false → Sound (with_strong k cell)
strong_sound cell k sound l free =
    record {
      owned_unburied = λ j h. elim (one_more_some k cell.strong j h) [ inl same ↦ ap cell.buried same ∙ free | inr had ↦ sound.owned_unburied j had ];
      buried_published = sound.buried_published;
      strong_published = λ j h. elim (one_more_some k cell.strong j h) [ inl same ↦ rw same l | inr had ↦ sound.strong_published j had ];
      weak_published = sound.weak_published;
    }

-- the last number isn't buried
pub last_unburied : {T : Type 0} (cell : Cell T) (k : ℕ) → Sound cell → IsLast cell k → cell.buried k ≡ false
last_unburied cell k sound last =
    elim (cases_Bool (cell.buried k)) [ inl gone ↦ (let l = sound.buried_published k gone in absurd (omega arith)) | inr free ↦ free ]

value_sound : {T : Type 0} (cell : Cell T) (value : T) → Sound cell → Sound (with_value value cell)
value_sound cell value sound =
    let longer : length (cell.published ++ value ∷ []) ≡ length cell.published + 1 = length-append cell.published (value ∷ []) in
    record {
      owned_unburied = sound.owned_unburied;
      buried_published = λ k h. let l = sound.buried_published k h in omega arith;
      strong_published = λ k h. let l = sound.strong_published k h in omega arith;
      weak_published = λ k h. let l = sound.weak_published k h in omega arith;
    }

without_strong_sound : {T : Type 0} (cell : Cell T) (k : ℕ) → Sound cell → Sound (without_strong k cell)
without_strong_sound cell k sound =
    record {
      owned_unburied = λ j h. sound.owned_unburied j (one_less_some k cell.strong j h);
      buried_published = sound.buried_published;
      strong_published = λ j h. sound.strong_published j (one_less_some k cell.strong j h);
      weak_published = sound.weak_published;
    }

weak_sound : {T : Type 0} (cell : Cell T) (k : ℕ) → Sound cell → k < length cell.published → Sound (with_weak k cell)
weak_sound cell k sound l =
    record {
      owned_unburied = sound.owned_unburied;
      buried_published = sound.buried_published;
      strong_published = sound.strong_published;
      weak_published = λ j h. elim (one_more_some k cell.weak j h) [ inl same ↦ rw same l | inr had ↦ sound.weak_published j had ];
    }

without_weak_sound : {T : Type 0} (cell : Cell T) (k : ℕ) → Sound cell → Sound (without_weak k cell)
without_weak_sound cell k sound =
    record {
      owned_unburied = sound.owned_unburied;
      buried_published = sound.buried_published;
      strong_published = sound.strong_published;
      weak_published = λ j h. sound.weak_published j (one_less_some k cell.weak j h);
    }

-- a burial of a number that isn't the last and that nobody owns
bury_sound : {T : Type 0} (cell : Cell T) (k : ℕ) → Sound cell → k + 1 < length cell.published → cell.strong k ≡ 0 → Sound (with_buried k cell)
bury_sound cell k sound l none =
    record {
      owned_unburied = λ j h. elim (eqb_tells j k) [
        | inl same ↦ (let e : cell.strong j ≡ 0 = ap cell.strong same.1 ∙ none in absurd (omega arith))
        | inr other ↦ rw other.0 (sound.owned_unburied j h)
      ];
      buried_published = λ j h. elim (eqb_tells j k) [ inl same ↦ rw same.1 l | inr other ↦ sound.buried_published j (rw other.0 at h) ];
      strong_published = sound.strong_published;
      weak_published = sound.weak_published;
    }

step_sound : {T : Type 0} (before : Cell T) (step : CellStep T) (given : Option ℕ) (after : Cell T) → Steps before step given after → Sound before → Sound after
step_sound before Load given after s sound =
    subst Sound (sym s.3) (strong_sound before s.0 sound (omega (arith, s.1)) (last_unburied before s.0 sound s.1))
step_sound before (Publish value) given after s sound =
    subst Sound (sym s.3) (value_sound (with_strong s.0 before) value (strong_sound before s.0 sound (omega (arith, s.1)) (last_unburied before s.0 sound s.1)))
step_sound before (Clone k) given after s sound =
    subst Sound (sym s.2) (strong_sound before k sound (sound.strong_published k s.0) (sound.owned_unburied k s.0))
step_sound before (Drop k) given after s sound = subst Sound (sym s.2) (without_strong_sound before k sound)
step_sound before (Bury k) given after s sound = subst Sound (sym s.4) (bury_sound before k sound s.0 s.1)
step_sound before (Down k) given after s sound = subst Sound (sym s.2) (weak_sound before k sound (sound.strong_published k s.0))
step_sound before (Up k) given after s sound =
    elim (cases_Bool (before.buried k)) [
      | inl gone ↦ (let up = rw gone at s.1 in subst Sound (sym up.1) sound)
      | inr free ↦ (let up = rw free at s.1 in subst Sound (sym up.1) (strong_sound before k sound (sound.weak_published k s.0) free))
    ]
step_sound before (Fade k) given after s sound = subst Sound (sym s.2) (without_weak_sound before k sound)

run_sound : {T : Type 0} (before after : Cell T) (run : List (CellStep T × Option ℕ)) → Runs before run after → Sound before → Sound after
run_sound before after [] r sound = subst Sound (sym r) sound
run_sound before after ((step, given) ∷ more) r sound = run_sound r.0 after more r.2 (step_sound before step given r.0 r.1 sound)

start_sound : {T : Type 0} (value : T) → Sound (start value)
start_sound value =
    record {
      owned_unburied = λ k h. refl;
      buried_published = λ k h. absurd (true≢false (sym h));
      strong_published = λ k h. absurd (omega arith);
      weak_published = λ k h. absurd (omega arith);
    }

pub reached_sound : {T : Type 0} (cell : Cell T) → IsReached cell → Sound cell
reached_sound cell r = run_sound (start r.0) cell r.1 r.2 (start_sound r.0)

-- one more that follows the last
pub each_one_more : {T : Type 0} (follows : T → T → Type 0) (values : List T) (last next : T) → EachFollows follows (values ++ last ∷ []) → follows last next → EachFollows follows (values ++ last ∷ next ∷ [])
each_one_more follows [] last next h f = (f, tt)
each_one_more follows (value ∷ []) last next h f = (h.0, (f, tt))
each_one_more follows (value ∷ second ∷ values) last next h f = (h.0, each_one_more follows (second ∷ values) last next h.1 f)
