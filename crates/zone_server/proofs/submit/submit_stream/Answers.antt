-- What is told at once is a reply.
use Rattle.zone_server.proofs.ReplyDoneLemmas.{refused_at_once, unread_at_once}
use Rattle.zone_server.proofs.submit.submit_stream.Goals as goal

pub returns-in-Err-clause-submitted : goal.returns-in-Err-clause-submitted
returns-in-Err-clause-submitted g c =
    unread_at_once g.Z.FirstZone.zone c.args.peer c.args.reader.now c.args.request.now c.write_code.new.out c.in-Err.heading c.in-Err.outcome c.write_code.result c.requires.update c.in-Err.ensures c.write_code.ensures.octets c.write_code.ensures.len

pub returns-in_default-clause-submitted : goal.returns-in_default-clause-submitted
returns-in_default-clause-submitted g c =
    refused_at_once g.Z.FirstZone.zone c.args.peer c.args.reader.now c.meet.new.reader c.meet.result c.args.request.now c.refuse-len.new.out c.in-Ok.update c.of_update-heading.result c.refuse-len.result.0 c.refuse-len.result.1 c.meet.ensures c.requires.update c.in-Ok.ensures c.of_update-heading.ensures c.refuse-len.ensures.octets c.refuse-len.ensures.len c.refuse-len.ensures.code c.refuse-len.ensures.serials

pub returns-clause-submitted : goal.returns-clause-submitted
returns-clause-submitted g c =
    refused_at_once g.Z.FirstZone.zone c.args.peer c.args.reader.now c.open-number.new.reader c.open-number.result.0 c.args.request.now c.refuse-len-2.new.out c.in-Ok.update c.of_update-heading.result c.refuse-len-2.result.0 c.refuse-len-2.result.1 c.open-number.ensures c.requires.update c.in-Ok.ensures c.of_update-heading.ensures c.refuse-len-2.ensures.octets c.refuse-len-2.ensures.len c.refuse-len-2.ensures.code c.refuse-len-2.ensures.serials
