use Rattle.dns_name.specs.Labels.{labels_in}
use Rattle.dns_message.specs.Encoding.{named}
use Rattle.dns_message.proofs.EncodedLemmas.{WritesEncoding-name}
use Rattle.dns_message.proofs.data.put_name_octets.Goals as goal

pub returns : goal.returns
unfolding named
returns c = WritesEncoding-name (named c.args.compress (labels_in c.args.octets.now)) _ _ _ _ _ _ c.write_octets.ensures.octets c.write_octets.ensures.table c.write_octets.ensures.entered
