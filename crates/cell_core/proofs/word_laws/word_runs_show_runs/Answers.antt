-- By the run.
use Rattle.cell_core.proofs.RunShows.{run_shows}
use Rattle.cell_core.proofs.word_laws.word_runs_show_runs.Goals as goal

pub returns : goal.returns
returns g c before after run cell s r =
    let shown = run_shows before after run cell s r in
    (shown.0, shown.1.steps, shown.1.short, shown.1.runs, shown.2)
