-- What is told at once is a reply.
use Rattle.zone_server.proofs.ReplyDoneLemmas.{refused_at_once, unread_at_once}
use Rattle.zone_server.proofs.submit.submit_datagram.Goals as goal

pub returns-in-Err : goal.returns-in-Err
returns-in-Err g c =
    unread_at_once g.Z.FirstZone.zone c.args.peer c.args.reader.now c.args.request.now c.write_code-len.new.out c.in-Err.heading c.in-Err.outcome c.write_code-len.result c.requires.update c.in-Err.ensures c.write_code-len.ensures.octets c.write_code-len.ensures.len

pub returns : goal.returns
returns g c =
    refused_at_once g.Z.FirstZone.zone c.args.peer c.args.reader.now c.meet.new.reader c.meet.result c.args.request.now c.refuse-len.new.out c.in-Ok.update c.of_update-heading.result c.refuse-len.result.0 c.refuse-len.result.1 c.meet.ensures c.requires.update c.in-Ok.ensures c.of_update-heading.ensures c.refuse-len.ensures.octets c.refuse-len.ensures.len c.refuse-len.ensures.code c.refuse-len.ensures.serials
