-- What a line of a script takes of the words: one step of one call, or none (own).
use Rattle.std.specs.Prelude.{◌≡◌, ◌⊎◌, Option, None, Some}
use Rattle.cell_core.specs.WordSteps.{Makes}
use Rattle.cell_core.specs.declared.words.WordEvent.{WordEvent}
use Rattle.cell_core.specs.declared.words.WordStep.{WordStep}
use Rattle.cell_core.specs.declared.words.WordStep.TheVariants as word
use Rattle.zone_tree.specs.Version.{Version as Numbered}
use Rattle.world_run.specs.declared.step.StepName.{StepName}
use Rattle.world_run.specs.declared.step.StepName.TheVariants as step
use Rattle.world_run.specs.declared.step.WorldReply.{WorldReply}
use Rattle.world_run.specs.declared.step.WorldReply.TheVariants.{Answered, Begun, Step, Last, NotEnabled}
use Rattle.world_run.specs.World.{World}

-- the name of a step on a word (own)
abbrev pub name_of : WordStep Numbered → StepName
name_of word.Load = step.Load
name_of word.Probe = step.Probe
name_of (word.Prepare version) = step.Prepare
name_of word.Swap = step.Swap
name_of word.Settle = step.Settle
name_of (word.Release owner) = step.Release
name_of (word.Bury owner) = step.Bury
name_of (word.Free owner) = step.Free
name_of (word.Look owner) = step.Look
name_of (word.Raise owner) = step.Raise
name_of (word.Note owner) = step.Note
name_of (word.Fade owner) = step.Fade
name_of (word.Reset owner) = step.Reset

-- the step that a reply tells; none of a call that has made all its steps, or is under way from then on (own)
abbrev pub step_told : WorldReply → Option StepName
step_told (Step name) = Some name
step_told (Last name answer) = Some name
step_told (Answered answer) = None
step_told Begun = None
step_told NotEnabled = None

-- a line takes one step on a word, which its reply tells, or it isn't enabled and changes nothing (own)
abbrev pub TakesOneStep : World → WorldReply → World → Type 0
TakesOneStep world reply after =
    ((reply ≡ NotEnabled) × (after ≡ world))
    ⊎ ((step : WordStep Numbered) × (event : WordEvent) × Makes world.words step event after.words × (step_told reply ≡ Some (name_of step)))
