use Rattle.zone_lexing.proofs.EntryLemmas.{AreInOrder-of}
use Rattle.zone_lexing.proofs.laws.entries_are_in_order.Goals as goal

pub returns : goal.returns
returns c = AreInOrder-of
