-- A run of steps on words shows a run of a cell.
use Rattle.std.proofs.Common.{◌≡◌, refl, sym, subst, ℕ, ◌≤◌, inl, inr, List, [], ◌∷◌, ◌++◌, length, length-append, arith}
use Rattle.std.specs.Prelude.{Option, None, Some}
use Rattle.cell_core.proofs.StepShows.{step_shows}
use Rattle.cell_core.specs.Cell.{Cell, CellStep, Steps, Runs}
use Rattle.cell_core.specs.Words.{State}
use Rattle.cell_core.specs.Shows.{Shows, ShowsStep, WordRuns}
use Rattle.cell_core.specs.declared.words.WordStep.{WordStep}
use Rattle.cell_core.specs.declared.words.WordStep.TheVariants.{Load, Swap, Release, Bury, Look, Raise, Note, Fade}
use Rattle.cell_core.specs.declared.words.WordEvent.{WordEvent}
use Rattle.cell_core.specs.declared.words.WordEvent.TheVariants.{Loaded, Swapped, Buried, Dead, Raised, Noted}

-- a run of one step at most
pub record ShortRun {T : Type 0} (before after : Cell T) : Type 0 where
  pub steps : List (CellStep T × Option ℕ)
  pub short : length steps ≤ 1
  pub runs : Runs before steps after

one_step : {T : Type 0} (step : CellStep T) (given : Option ℕ) (before after : Cell T) → Steps before step given after → ShortRun before after
one_step step given before after s = record { steps = (step, given) ∷ []; short = omega arith; runs = (after, s, refl) }

no_step : {T : Type 0} (before after : Cell T) → after ≡ before → ShortRun before after
no_step before after e = record { steps = []; short = omega arith; runs = e }

-- what a step shows is such a run
pub step_runs : {T : Type 0} (state : State T) (step : WordStep T) (event : WordEvent) (before after : Cell T) → ShowsStep state step event before after → ShortRun before after
step_runs state Load (Loaded owner number) before after s = one_step CellStep.Load (Some number) before after s
step_runs state Swap (Swapped number) before after s = one_step (CellStep.Publish s.0) (Some number) before after s.2
step_runs state (Release owner) event before after s = one_step (CellStep.Drop s.0) None before after s.3
step_runs state (Bury owner) (Buried number) before after s = one_step (CellStep.Bury number) None before after s
step_runs state (Look owner) Dead before after s = one_step (CellStep.Up s.0) None before after s.3
step_runs state (Raise owner) Dead before after s = one_step (CellStep.Up s.0) None before after s.3
step_runs state (Raise owner) (Raised next number) before after s =
    elim s.1 [
      | inl strong ↦ one_step (CellStep.Clone number) (Some number) before after strong.1
      | inr weak ↦ one_step (CellStep.Up number) (Some number) before after weak.1
    ]
step_runs state (Note owner) (Noted next number) before after s = one_step (CellStep.Down number) (Some number) before after s
step_runs state (Fade owner) event before after s =
    elim s [
      | inl weak ↦ one_step (CellStep.Fade weak.0) None before after weak.3
      | inr burier ↦ no_step before after burier.2
    ]
step_runs state step event before after s = no_step before after s

-- one run behind another
runs_on : {T : Type 0} (one two three : Cell T) (run more : List (CellStep T × Option ℕ)) → Runs one run two → Runs two more three → Runs one (run ++ more) three
runs_on one two three [] more r s = subst (λ c. Runs c more three) r s
runs_on one two three ((step, given) ∷ run) more r s = (r.0, r.1, runs_on r.0 two three run more r.2 s)

-- what a run shows: no more steps than it has
pub record RunOf {T : Type 0} (cell next : Cell T) (count : ℕ) : Type 0 where
  pub steps : List (CellStep T × Option ℕ)
  pub short : length steps ≤ count
  pub runs : Runs cell steps next

pub run_shows : {T : Type 0} (before after : State T) (run : List (WordStep T × WordEvent)) (cell : Cell T) → Shows before cell → WordRuns before run after → (next : Cell T) × RunOf cell next (length run) × Shows after next
run_shows before after [] cell s r = (cell, record { steps = []; short = omega arith; runs = refl }, subst (λ x. Shows x cell) (sym r) s)
run_shows before after ((step, event) ∷ run) cell s r =
    let made = step_shows before r.0 step event cell s r.1 in
    let first = step_runs before step event cell made.0 made.1 in
    let rest = run_shows r.0 after run made.0 made.2 r.2 in (
      rest.0,
      record {
        steps = first.steps ++ rest.1.steps;
        short = omega (arith, length-append first.steps rest.1.steps, first.short, rest.1.short);
        runs = runs_on cell made.0 rest.0 first.steps rest.1.steps first.runs rest.1.runs;
      },
      rest.2,
    )
