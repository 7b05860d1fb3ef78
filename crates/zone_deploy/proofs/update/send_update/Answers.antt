use Rattle.std.proofs.Common.{◌≡◌, List, ℕ, sym, ap, ◌∙◌, refl, subst}
use Rattle.std.specs.Option.{option_copied}
use Rattle.std.specs.Io.KnownBytes.{Appends}
use Rattle.dns_message.specs.Frame.{frame_of}
use Rattle.zone_deploy.specs.Replies.{code_of}
use Rattle.zone_deploy.specs.Signatures.{Chain, IsNext, first_chain}
use Rattle.zone_deploy.proofs.update.send_update.Goals as goal

pub returns : goal.returns
returns g c = record {
  now = c.seconds_of.result;
  reply = c.in_ok-reply.reply.items;
  sent =
      subst (λ (o : List ℕ). Appends (g.W.Write.contents c.args.writer.now) (g.W.Write.contents c.write_message.new.writer) (frame_of o))
      (c.deref.ensures.value ∙ c.in_ok-octets.ensures.octets) c.in_ok-write_message.ensures;
  read = c.in_ok-reply.ensures.read;
  code_is = ap (code_of c.args.update.now) (sym c.deref-2.ensures.value) ∙ sym c.in-Some.ensures.code;
  last = c.check.new.self;
  signed = (
    c.check.new.self,
    subst (λ (o : List ℕ). IsNext (option_copied c.args.key) (first_chain (option_copied c.args.key) c.seconds_of.result c.args.update.now) o c.check.new.self) c.deref-3.ensures.value
        (subst (λ (first : Chain). IsNext (option_copied c.args.key) first c.deref-3.result.now c.check.new.self) c.in_ok-octets.ensures.chain c.in_ok-check.ensures),
    refl,
  );
}
