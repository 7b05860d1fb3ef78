use Rattle.transfer_core.proofs.CountLemmas.{tells}
use Rattle.transfer_core.proofs.packed.messages_tell_their_records.Goals as goal

pub returns : goal.returns
returns c = record {
  header = λ head question opt list octets later e short. (tells head question opt list octets later e short).header;
  left = λ head question opt list octets later e short. (tells head question opt list octets later e short).left;
}
