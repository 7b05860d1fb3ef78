-- Each call that begins can be carried to its end.
use Rattle.world_laws.proofs.UsePlay.{played_refusal}
use Rattle.world_laws.proofs.laws.refused_lines_change_nothing.Goals as goal

pub returns : goal.returns
returns c = played_refusal
