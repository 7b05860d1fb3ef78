-- The cell that is shown grows.
use Rattle.cell_core.proofs.LawLemmas.{run_grows}
use Rattle.cell_core.proofs.RunShows.{run_shows}
use Rattle.cell_core.proofs.word_laws.words_only_grow.Goals as goal

pub returns : goal.returns
returns g c before after run cell s r =
    let shown = run_shows before after run cell s r in
    let grown = run_grows cell shown.0 shown.1.steps shown.1.runs in
    (shown.0, shown.2, grown.published, grown.buried)
