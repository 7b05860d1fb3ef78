-- The message is that of what the chain tells, of which a datagram has one.
use Rattle.std.proofs.Common.{sym, ◌∙◌, subst}
use Rattle.zone_tree.specs.Zone.{soa_of}
use Rattle.dns_engine.specs.Chain.{changes_by}
use Rattle.transfer_core.specs.declared.packer.TheConstants.{MAX_MESSAGE}
use Rattle.zone_server.proofs.TransferLemmas.{IsOne, datagrams_one, one_message, one_short}
use Rattle.zone_server.proofs.transfer.write_transfer.Goals as goal

pub returns-clause-messages : goal.returns-clause-messages
returns-clause-messages c =
    let version = c.args.version.now in
    let messages = c.transfer_reply-packer.ensures.messages in
    let one = subst IsOne (sym messages) (datagrams_one version.zone (changes_by (soa_of version.zone) c.args.chain.now) c.args.peer c.args.query.now c.requires.datagram) in
    one_message c.transfer_reply-packer.result c.next_message.new.self c.args.out.now c.next_message.new.out MAX_MESSAGE one c.next_message.result c.next_message.ensures.message ∙ messages

pub returns-clause-bound : goal.returns-clause-bound
returns-clause-bound c =
    let version = c.args.version.now in
    let messages = c.transfer_reply-packer.ensures.messages in
    let one = subst IsOne (sym messages) (datagrams_one version.zone (changes_by (soa_of version.zone) c.args.chain.now) c.args.peer c.args.query.now c.requires.datagram) in
    one_short c.transfer_reply-packer.result c.next_message.new.self c.args.out.now c.next_message.new.out MAX_MESSAGE one c.next_message.result c.next_message.ensures.message
