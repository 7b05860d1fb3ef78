-- Its messages are those of the version that it was permitted in.
use Rattle.std.proofs.Common.{ap, ◌∙◌}
use Rattle.zone_tree.specs.Zone.{soa_of}
use Rattle.zone_tree.specs.Version.{Version}
use Rattle.dns_engine.specs.Chain.{changes_by}
use Rattle.serve_core.specs.Transfers.{messages_to}
use Rattle.zone_replies.proofs.transfer_reply.begin_transfer.Goals as goal

pub returns-in-Ok-clause-started : goal.returns-in-Ok-clause-started
returns-in-Ok-clause-started g c =
    (c.in-Ok.chain, c.in-Ok.ensures.chained, c.reply_transfer.ensures.messages ∙ ap (λ (v : Version). messages_to v.zone (changes_by (soa_of v.zone) c.in-Ok.chain) c.args.peer c.args.query) c.in-Ok.ensures.version)
