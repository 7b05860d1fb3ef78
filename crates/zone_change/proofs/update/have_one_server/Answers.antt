use Rattle.std.proofs.Common.{sym, ap, ◌∙◌}
use Rattle.std.specs.List.{list_any}
use Rattle.dns_name.specs.Name.{is_same}
use Rattle.dns_rdata.specs.Record.{owner_of, rtype_of}
use Rattle.zone_tree.specs.Patch.{is_among}
use Rattle.zone_change.proofs.ServerLemmas.{servers_alike}
use Rattle.zone_change.proofs.UpdateLemmas.{shared_servers}
use Rattle.zone_change.proofs.update.have_one_server.Goals as goal

pub share_one-requires-clause-owner : goal.share_one-requires-clause-owner
share_one-requires-clause-owner c =
    (λ i. is_same (owner_of (c.servers_of.ensures.set i)) (owner_of (c.servers_of-2.ensures.set i)))
    ∙ (servers_alike c.args.old.now c.args.next.now c.servers_of.ensures.lawful c.servers_of-2.ensures.lawful c.requires).0

pub share_one-requires-clause-rtype : goal.share_one-requires-clause-rtype
share_one-requires-clause-rtype c =
    ap rtype_of c.servers_of.ensures.set
    ∙ (servers_alike c.args.old.now c.args.next.now c.servers_of.ensures.lawful c.servers_of-2.ensures.lawful c.requires).1
    ∙ sym (ap rtype_of c.servers_of-2.ensures.set)

pub returns : goal.returns
returns c = c.share_one.ensures ∙ (λ i. list_any (is_among (c.servers_of.ensures.set i)) (c.servers_of-2.ensures.set i)) ∙ shared_servers c.args.old.now c.args.next.now c.requires
