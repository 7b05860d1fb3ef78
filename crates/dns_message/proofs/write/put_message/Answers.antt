use Rattle.std.proofs.Common.{rules}
use Rattle.wire_names.specs.Written.{IsOverwritten}
use Rattle.dns_message.specs.Message.{message_of}
use Rattle.dns_message.specs.Octets.{counts_in, header_octets}
use Rattle.dns_message.proofs.OctetsLemmas.{message_put}
use Rattle.dns_message.proofs.write.put_message.Goals as goal

pub returns : goal.returns
returns c =
    let m = message_of c.args.reply.now in
    let front : IsOverwritten c.args.out.now c.put_header.new.out 0 (header_octets m (counts_in m)) c.in_ok-at.at = search rules in
    message_put m _ _ _ _ _ _ _ c.reset.ensures front c.put_sections.ensures
