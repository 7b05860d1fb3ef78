-- The steps of a call, one after the other.
use Rattle.std.proofs.Common.{◌≡◌, refl, sym, ap, ◌∙◌, subst, ℕ, zero, suc, ◌+◌, ◌-◌, ◌<◌, arith, Some, None}
use Rattle.std.specs.Option.{option_map}
use Rattle.cell_core.specs.Words.{State}
use Rattle.cell_core.specs.Made.{made}
use Rattle.cell_core.specs.WordSteps.{Makes, HasWordStep}
use Rattle.cell_core.specs.declared.words.WordStep.{WordStep}
use Rattle.cell_core.specs.declared.words.WordEvent.{WordEvent}
use Rattle.cell_core.proofs.MadeLemmas.{none_made, makes_made}
use Rattle.zone_tree.specs.Version.{Version as Numbered}
use Rattle.world_run.specs.declared.phase.Phase.{Phase}
use Rattle.world_run.specs.declared.phase.End.{End}
use Rattle.world_run.specs.declared.phase.Progress.{Progress}
use Rattle.world_run.specs.declared.phase.Progress.TheVariants.{On, Done}
use Rattle.world_run.specs.Phases.{word_step, after}
use Rattle.world_run.specs.World.{step_once, steps_up_to, most_steps}

-- the words have no such step as a call takes next
pub no_step : (words : State Numbered) (phase : Phase) (step : WordStep Numbered) → step ≡ word_step phase → (HasWordStep words step → ⊥) → made words (word_step phase) ≡ None
no_step words phase step is none = none_made words (word_step phase) (λ has. none (rw is has))

-- a step that is made is the one that the call takes next
pub step_made : (words new : State Numbered) (phase : Phase) (step : WordStep Numbered) (event : WordEvent) → step ≡ word_step phase → Makes words step event new → made words (word_step phase) ≡ Some (event, new)
step_made words new phase step event is m = makes_made words new (word_step phase) event (subst (λ s. Makes words s event new) is m)

-- the call's step by that of the words
pub none_once : (words : State Numbered) (phase : Phase) → made words (word_step phase) ≡ None → step_once words phase ≡ None
none_once words phase none = ap (option_map (λ reported. (after reported.1 phase reported.0, reported.1))) none

pub made_once : (words new : State Numbered) (phase : Phase) (event : WordEvent) (progress : Progress) → made words (word_step phase) ≡ Some (event, new) → progress ≡ after new phase event → step_once words phase ≡ Some (progress, new)
made_once words new phase event progress is goes = ap (option_map (λ reported. (after reported.1 phase reported.0, reported.1))) is ∙ ap (λ (p : Progress). Some (p, new)) (sym goes)

pub stays_there : (left : ℕ) (words : State Numbered) (phase : Phase) → 0 < left → step_once words phase ≡ None → steps_up_to left words phase ≡ (On phase, words)
unfolding steps_up_to
stays_there zero words phase some none = absurd (omega (arith, some))
stays_there (suc left) words phase some none = rw none refl

pub goes_further : (left : ℕ) (words between : State Numbered) (phase next : Phase) → 0 < left → step_once words phase ≡ Some (On next, between) → steps_up_to left words phase ≡ steps_up_to (left - 1) between next
unfolding steps_up_to
goes_further zero words between phase next some goes = absurd (omega (arith, some))
goes_further (suc left) words between phase next some goes = let e : suc left - 1 ≡ left = omega arith in rw (goes, e) refl

pub ends_there : (left : ℕ) (words between : State Numbered) (phase : Phase) (end : End) → 0 < left → step_once words phase ≡ Some (Done end, between) → steps_up_to left words phase ≡ (Done end, between)
unfolding steps_up_to
ends_there zero words between phase end some ends = absurd (omega (arith, some))
ends_there (suc left) words between phase end some ends = rw ends refl

-- the call takes one step more
pub further : (at : ℕ) (first words new : State Numbered) (begun phase next : Phase) → at < most_steps → step_once words phase ≡ Some (On next, new)
    → steps_up_to most_steps first begun ≡ steps_up_to (most_steps - at) words phase → steps_up_to most_steps first begun ≡ steps_up_to (most_steps - (at + 1)) new next
further at first words new begun phase next lt goes so_far =
    let left : most_steps - at - 1 ≡ most_steps - (at + 1) = omega arith in
    so_far ∙ goes_further (most_steps - at) words new phase next (omega arith) goes ∙ ap (λ n. steps_up_to n new next) left

-- the call can't take its next step
pub stayed : (at : ℕ) (first words new : State Numbered) (begun phase : Phase) → at < most_steps → step_once words phase ≡ None → new ≡ words
    → steps_up_to most_steps first begun ≡ steps_up_to (most_steps - at) words phase → (On phase, new) ≡ steps_up_to most_steps first begun
stayed at first words new begun phase lt none same so_far =
    ap (λ (s : State Numbered). (On phase, s)) same ∙ sym (so_far ∙ stays_there (most_steps - at) words phase (omega arith) none)

-- the call is at its end
pub ended : (at : ℕ) (first words new : State Numbered) (begun phase : Phase) (end : End) → at < most_steps → step_once words phase ≡ Some (Done end, new)
    → steps_up_to most_steps first begun ≡ steps_up_to (most_steps - at) words phase → (Done end, new) ≡ steps_up_to most_steps first begun
ended at first words new begun phase end lt ends so_far = sym (so_far ∙ ends_there (most_steps - at) words new phase end (omega arith) ends)

no_more : (left : ℕ) (words : State Numbered) (phase : Phase) → left ≡ 0 → steps_up_to left words phase ≡ (On phase, words)
unfolding steps_up_to
no_more zero words phase is = refl
no_more (suc left) words phase is = absurd (omega (arith, is))

-- so many steps are taken
pub passed : (at : ℕ) (first words : State Numbered) (begun phase : Phase) → at ≡ most_steps
    → steps_up_to most_steps first begun ≡ steps_up_to (most_steps - at) words phase → (On phase, words) ≡ steps_up_to most_steps first begun
passed at first words begun phase is so_far = sym (so_far ∙ no_more (most_steps - at) words phase (omega arith))
