use Rattle.std.proofs.Common.{◌++◌, ◌∷◌, [], List, ℕ, Option, ap, ◌∙◌, subst}
use Rattle.dns_rdata.specs.Record.{Record}
use Rattle.serve_core.specs.Transfers.{messages_to}
use Rattle.commands.specs.Lines.{spaced, Writes}
use Rattle.commands.proofs.answer.write_messages.Goals as goal

pub returns : goal.returns
returns g c =
    λ past holds.
    let made = rw c.last_version.ensures at c.transfer_reply-messages.ensures.messages in
    let sent = made ∙ ap (λ (changes : Option (List Record)). messages_to c.args.kept.now.newest.zone changes c.args.peer c.args.query.now) (c.chain_for-chain.ensures past holds) in
    subst (λ (messages : List (List ℕ)). Writes c.write_transfer.result (g.W.Write.contents c.args.writer.now) (g.W.Write.contents c.write_transfer.new.writer) (spaced messages ++ 10 ∷ [])) sent c.write_transfer.ensures
