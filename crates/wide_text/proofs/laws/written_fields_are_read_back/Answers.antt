use Rattle.std.proofs.Common.{subst, List, Option}
use Rattle.wide_text.proofs.RestLemmas.{AreBack, fields_back}
use Rattle.wide_text.proofs.laws.written_fields_are_read_back.Goals as goal
use Rattle.zone_lexing.specs.Word.{Written}

pub returns : goal.returns
returns c = λ fields rest octets words origin all e. subst (λ (o : Option (List Written)). AreBack fields rest octets o) e (fields_back fields rest octets all) origin
