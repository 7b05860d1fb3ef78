-- The cell is the one that is played in.
use Rattle.test_cell.proofs.plays.played.Given as goal

abbrev pub ghosts-play_in : goal.ghosts-play_in
ghosts-play_in g a = record { cell = a.counted_cell.cell }
