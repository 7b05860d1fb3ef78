use Rattle.message_laws.proofs.SectionLemmas.{sections_again, body_again}
use Rattle.message_laws.proofs.laws.sections_are_read_again.Goals as goal

pub returns : goal.returns
returns c = record { sections = sections_again; counted = body_again }
