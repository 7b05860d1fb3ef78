use Rattle.std.proofs.Common.{ℕ, List, [], ◌∷◌, ◌++◌, ap, ◌∙◌, subst}
use Rattle.dns_rdata.specs.Record.{Record}
use Rattle.zone_tree.specs.Version.{Version}
use Rattle.hex.specs.Hex.{encode_lower}
use Rattle.dns_message.specs.Octets.{fit}
use Rattle.serve_core.specs.Transfers.{reply_to_peer}
use Rattle.serve_core.specs.Transport.{limit_of}
use Rattle.commands.specs.Lines.{Writes}
use Rattle.commands.proofs.answer.write_found.Goals as goal

pub returns : goal.returns
returns g c =
    let zone_is = c.zone.ensures ∙ ap (λ (version : Version). version.zone) c.last_version.ensures in
    let reply = c.respond_by-len.ensures.octets ∙ ap (λ (zone : List Record). fit (reply_to_peer zone c.args.peer c.args.query.now) (limit_of c.args.peer.transport c.args.query.now.edns)) zone_is in
    subst (λ (octets : List ℕ). Writes c.write_octets.result (g.W.Write.contents c.args.writer.now) (g.W.Write.contents c.write_octets.new.writer) (encode_lower octets ++ 10 ∷ [])) reply c.write_octets.ensures
