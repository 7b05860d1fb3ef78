-- The run is told line by line.
use Rattle.world_laws.proofs.RunLemmas.{play_runs, play_reached}
use Rattle.world_laws.proofs.laws.plays_are_runs.Goals as goal

pub returns-clause-run : goal.returns-clause-run
returns-clause-run c = play_runs

pub returns-clause-cell : goal.returns-clause-cell
returns-clause-cell c = play_reached
