-- The datagram that is sent is the message with the code of the result.
use Rattle.std.proofs.Common.{◌≡◌, ◌∷◌, [], ℕ, List, None, ap, ◌∙◌, sym, take}
use Rattle.dns_message.specs.Octets.{fit}
use Rattle.serve_core.specs.declared.transport.Transport.{Transport}
use Rattle.serve_core.specs.Heading.{heading_of_update, coded}
use Rattle.serve_core.specs.Transport.{limit_of}
use Rattle.zone_server.specs.declared.outgoing.Outgoing.{Outgoing}
use Rattle.zone_server.specs.Brought.{brought_after, sent_by, brought_from, coded_reply}
use Rattle.zone_server.proofs.server_publisher.send_one.Goals as goal

pub returns-in-Send-clause-brought : goal.returns-in-Send-clause-brought
returns-in-Send-clause-brought g c =
    let done = c.in-Send.done in
    let before = g.P.ReplySender.brought c.args.replying.now in
    let octets : List ℕ = take c.write_done-len.result c.write_done-len.new.out in
    let written : octets ≡ coded_reply done.asked done.code =
    c.write_done-len.ensures.octets ∙ ap (λ (p : Transport). fit (coded (heading_of_update done.asked.update) done.code) (limit_of p None)) c.over-peer.ensures.carried in
    c.send.ensures
    ∙ (ap (λ (o : List ℕ). brought_after before (sent_by c.in-Send.worker c.in-Send.to c.in-Send.tsig o ∷ [])) written
    ∙ ap (λ (l : Outgoing). brought_after before (brought_from l ∷ [])) (sym c.in-Send.is))
