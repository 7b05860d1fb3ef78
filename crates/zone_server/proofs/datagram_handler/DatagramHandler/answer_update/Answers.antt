-- What the reader has seen grows.
use Rattle.zone_server.proofs.NowLemmas.{told_grows}
use Rattle.zone_server.proofs.datagram_handler.DatagramHandler.answer_update.Goals as goal

pub returns-clause-grows : goal.returns-clause-grows
returns-clause-grows g c =
    let reported = c.serve_update-len.ensures.reported in
    told_grows g.Z.FirstZone.zone c.args.peer.may_update c.args.request.now c.args.self.now.reader c.serve_update-len.new.reader reported.heading c.serve_update-len.result.1 reported.tells
