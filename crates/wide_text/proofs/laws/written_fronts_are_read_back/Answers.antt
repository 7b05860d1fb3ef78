use Rattle.wide_text.proofs.FrontBack.{front_is}
use Rattle.wide_text.proofs.laws.written_fronts_are_read_back.Goals as goal

pub returns : goal.returns
returns c = front_is
