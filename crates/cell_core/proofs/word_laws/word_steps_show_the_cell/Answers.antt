-- Step by step.
use Rattle.cell_core.proofs.StepShows.{step_shows}
use Rattle.cell_core.proofs.word_laws.word_steps_show_the_cell.Goals as goal

pub returns : goal.returns
returns g c = step_shows
