use Rattle.journal.proofs.FramesLemmas.{read_once}
use Rattle.journal.proofs.laws.octets_are_read_once.Goals as goal

pub returns : goal.returns
returns c = read_once
