use Rattle.wire_names.proofs.WrittenLemmas.{written_spelt}
use Rattle.wire_names.proofs.laws.written_is_spelt.Goals as goal

pub returns : goal.returns
returns c = λ compress msg positions behind name table lawful. written_spelt compress msg positions behind name table.targets lawful
