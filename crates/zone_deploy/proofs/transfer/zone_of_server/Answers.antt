use Rattle.std.proofs.Common.{◌≡◌, List, ℕ, map, sym, ap, ◌∙◌, subst}
use Rattle.std.specs.Global.{Vec}
use Rattle.std.specs.Option.{option_copied}
use Rattle.std.specs.Io.KnownBytes.{Appends}
use Rattle.dns_message.specs.Frame.{frame_of}
use Rattle.zone_tree.specs.Zone.{apex_of}
use Rattle.transfer_core.specs.Take.{take}
use Rattle.transfer_in.specs.Taking.{records_of_messages}
use Rattle.zone_deploy.specs.Exchanges.{transfer_query, IsTransfer}
use Rattle.zone_deploy.specs.Signatures.{sent_octets, first_chain}
use Rattle.zone_deploy.proofs.TransferLemmas.{octets_of}
use Rattle.zone_deploy.proofs.transfer.zone_of_server.Goals as goal

pub returns : goal.returns
returns g c =
    let query : c.in_ok-query.query.items ≡ transfer_query (apex_of c.args.other.now) = c.in_ok-query.ensures.query ∙ ap transfer_query c.apex.ensures in
    record {
      now = c.seconds_of.result;
      messages = octets_of c.in_ok-messages.messages.items;
      sent =
          subst (λ (o : List ℕ). Appends (g.W.Write.contents c.args.writer.now) (g.W.Write.contents c.write_message.new.writer) (frame_of o))
          (c.deref-2.ensures.value ∙ c.in_ok-octets.ensures.octets ∙ ap (sent_octets (option_copied c.args.key) c.seconds_of.result) (c.deref.ensures.value ∙ query))
          c.in_ok-write_message.ensures;
      transfer =
          subst (λ (q : List ℕ). IsTransfer (option_copied c.args.key) c.seconds_of.result q (g.R.Read.remaining c.args.reader.now) (g.R.Read.remaining c.read_transfer.new.reader) (octets_of c.in_ok-messages.messages.items))
          (c.deref-3.ensures.value ∙ query)
          (c.in_ok-messages.ensures c.seconds_of.result (c.in_ok-octets.ensures.chain ∙ ap (first_chain (option_copied c.args.key) c.seconds_of.result) (c.deref.ensures.value ∙ sym c.deref-3.ensures.value)));
      taken = ap (λ (ms : List (Vec ℕ)). take c.args.other.now (records_of_messages (octets_of ms))) (sym c.deref-4.ensures.value) ∙ c.in_ok-apply.ensures.zone;
    }
