use Rattle.record_text.proofs.DataLemmas.{IsData-words}
use Rattle.record_text.proofs.laws.what_is_read_is_data.Goals as goal

pub returns : goal.returns
returns c = record {
  form = λ rtype origin words octets e. (IsData-words rtype origin words octets e).form;
  short = λ rtype origin words octets e. (IsData-words rtype origin words octets e).short;
}
