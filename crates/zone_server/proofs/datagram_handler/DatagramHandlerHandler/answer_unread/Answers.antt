-- An update that there is no memory to read gets SERVFAIL, whoever sends it.
use Rattle.std.proofs.Common.{refl, None, inl}
use Rattle.dns_rdata.specs.declared.numbers.Rcode.TheVariants.{ServFail}
use Rattle.requests.specs.Datagrams.{by_datagram}
use Rattle.serve_core.specs.declared.peer.Peer.{Peer}
use Rattle.zone_server.specs.Updated.{starved}
use Rattle.zone_server.proofs.WantedLemmas.{want_asks}
use Rattle.zone_server.proofs.ReplyDoneLemmas.{unread_at_once}
use Rattle.zone_server.proofs.datagram_handler.DatagramHandlerHandler.answer_unread.Goals as goal

pub returns-clause-replied : goal.returns-clause-replied
returns-clause-replied g c = λ peer.
    (unread_at_once g.Z.FirstZone.zone (by_datagram peer) c.args.self.now.reader c.args.request.now c.write_code.new.out c.header_alone-heading.result (record { code = ServFail; serials = None }) c.write_code.result (want_asks c.args.request.now _ c.requires.wanted)
    (λ first may reader. starved c.args.head c.requires.wanted c.header_alone-heading.ensures refl refl refl) c.write_code.ensures.octets c.write_code.ensures.len).replied

pub returns-clause-reply : goal.returns-clause-reply
returns-clause-reply g c = λ peer. inl
    ((unread_at_once g.Z.FirstZone.zone (by_datagram peer) c.args.self.now.reader c.args.request.now c.write_code.new.out c.header_alone-heading.result (record { code = ServFail; serials = None }) c.write_code.result (want_asks c.args.request.now _ c.requires.wanted)
    (λ first may reader. starved c.args.head c.requires.wanted c.header_alone-heading.ensures refl refl refl) c.write_code.ensures.octets c.write_code.ensures.len).replied)
